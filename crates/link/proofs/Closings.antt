-- What the two ways hold while the primary closes and the secondary is closed: a DISC, or its answer and then nothing.
use Rattle.std.proofs.Common.{◌≡◌, ℕ, Bool, true, false, List, [], ◌∷◌, ◌++◌, refl}
use Rattle.frames.specs.declared.kind.Kind.{Kind}
use Rattle.frames.specs.declared.kind.Kind.TheVariants.{I, Disc, Ua, Dm}
use Rattle.frames.specs.Parts.{parts}
use Rattle.lines.specs.Entries.{Entry, struck, frame}
use Rattle.stations.specs.Station.{Block, status_by}
use Rattle.stations.specs.Puts.{put_by, plain}
use Rattle.link.proofs.Thinning.{Thin, none, mute, same, hit, gone}
use Rattle.link.proofs.Marks.{marked, Marks, blank, unmarked, no_mark}
use Rattle.link.proofs.Flows.{Flow, done, skip, info, status}

-- ---- way 1: nothing but a DISC, and nothing behind it

pub data Ending : List Entry → Type 0 where
  ending_none : Ending []
  ending_struck : {a : ℕ} {es : List Entry} → Ending es → Ending (struck a ∷ es)
  ending_disc : {a ns nr b : ℕ} {x : Block} → Ending (frame a (parts Disc ns nr b x) ∷ [])

pub ending_thin : {es fs : List Entry} → Ending es → Thin es fs → Ending fs
ending_thin ending_none none = ending_none
ending_thin (ending_struck h) (mute t) = ending_struck (ending_thin h t)
ending_thin (ending_struck h) (gone t) = ending_thin h t
ending_thin ending_disc (same none) = ending_disc
ending_thin ending_disc (hit none) = ending_struck ending_none
ending_thin ending_disc (gone none) = ending_none

ending_push : {d : ℕ} {P : ℕ → Type 0} {es : List Entry} →
    Ending es → Marks d P false es → Ending (es ++ (frame 0 (plain Disc) ∷ []))
ending_push ending_none w = ending_disc
ending_push (ending_struck h) (blank l w) = ending_struck (ending_push h w)
ending_push ending_disc w = absurd (no_mark refl w)

pub ending_put : (room : Bool) {d : ℕ} {P : ℕ → Type 0} {es : List Entry} →
    Ending es → Marks d P false es → Ending (put_by room es (plain Disc))
ending_put true h w = ending_push h w
ending_put false h w = h

-- ---- way 2: the answer is last, and then way 1 is empty

-- UA from a secondary that was open, DM from one that was closed
abbrev pub closing_answer : Bool → Kind
closing_answer true = Ua
closing_answer false = Dm

marked_answer : (up : Bool) (ns nr b : ℕ) (x : Block) → marked (parts (closing_answer up) ns nr b x) ≡ true
marked_answer true ns nr b x = refl
marked_answer false ns nr b x = refl

pub data Last : List Entry → List Entry → Type 0 where
  last_none : {one : List Entry} → Last one []
  last_struck : {one : List Entry} {a : ℕ} {es : List Entry} → Last one es → Last one (struck a ∷ es)
  last_info : {one : List Entry} {a ns nr b : ℕ} {x : Block} {es : List Entry} →
      Last one es → Last one (frame a (parts I ns nr b x) ∷ es)
  last_status : {one : List Entry} {a ns nr b : ℕ} {x : Block} {es : List Entry} (busy : Bool) →
      Last one es → Last one (frame a (parts (status_by busy) ns nr b x) ∷ es)
  last_answer : {a ns nr b : ℕ} {x : Block} (up : Bool) → Last [] (frame a (parts (closing_answer up) ns nr b x) ∷ [])

pub flow_last : {blocks : List Block} {hi m lo : ℕ} (one : List Entry) {es : List Entry} →
    Flow blocks hi m lo es → Last one es
flow_last one (done l h) = last_none
flow_last one (skip f) = last_struck (flow_last one f)
flow_last one (info c t f) = last_info (flow_last one f)
flow_last one (status w t f) = last_status w (flow_last one f)

-- with an entry on way 1, or no mark on way 2, there is no answer
pub last_free : (fs : List Entry) {e : Entry} {one es : List Entry} → Last (e ∷ one) es → Last fs es
last_free fs last_none = last_none
last_free fs (last_struck h) = last_struck (last_free fs h)
last_free fs (last_info h) = last_info (last_free fs h)
last_free fs (last_status w h) = last_status w (last_free fs h)

pub last_quiet : (fs : List Entry) {one es : List Entry} {d : ℕ} {P : ℕ → Type 0} →
    Last one es → Marks d P false es → Last fs es
last_quiet fs last_none w = last_none
last_quiet fs (last_struck h) (blank l w) = last_struck (last_quiet fs h w)
last_quiet fs (last_info h) (unmarked m l w) = last_info (last_quiet fs h w)
last_quiet fs (last_status v h) (unmarked m l w) = last_status v (last_quiet fs h w)
last_quiet fs (last_answer {ns = ns} {nr = nr} {b = b} {x = x} v) w = absurd (no_mark (marked_answer v ns nr b x) w)

pub last_thin : {es fs : List Entry} → Thin es fs → {one : List Entry} → Last one es → Last one fs
last_thin none last_none = last_none
last_thin (mute t) (last_struck h) = last_struck (last_thin t h)
last_thin (same t) (last_info h) = last_info (last_thin t h)
last_thin (same t) (last_status w h) = last_status w (last_thin t h)
last_thin (same none) (last_answer w) = last_answer w
last_thin (hit t) (last_info h) = last_struck (last_thin t h)
last_thin (hit t) (last_status w h) = last_struck (last_thin t h)
last_thin (hit none) (last_answer w) = last_struck last_none
last_thin (gone t) (last_struck h) = last_thin t h
last_thin (gone t) (last_info h) = last_thin t h
last_thin (gone t) (last_status w h) = last_thin t h
last_thin (gone none) (last_answer w) = last_none

pub last_thin_one : {one fs : List Entry} → Thin one fs → {es : List Entry} → Last one es → Last fs es
last_thin_one t last_none = last_none
last_thin_one t (last_struck h) = last_struck (last_thin_one t h)
last_thin_one t (last_info h) = last_info (last_thin_one t h)
last_thin_one t (last_status w h) = last_status w (last_thin_one t h)
last_thin_one none (last_answer w) = last_answer w

-- the answer goes out, or is lost
last_push : (up : Bool) {e : Entry} {one es : List Entry} →
    Last (e ∷ one) es → Last [] (es ++ (frame 0 (plain (closing_answer up)) ∷ []))
last_push up last_none = last_answer up
last_push up (last_struck h) = last_struck (last_push up h)
last_push up (last_info h) = last_info (last_push up h)
last_push up (last_status w h) = last_status w (last_push up h)

pub last_put : (room up : Bool) {e : Entry} {one es : List Entry} →
    Last (e ∷ one) es → Last [] (put_by room es (plain (closing_answer up)))
last_put true up h = last_push up h
last_put false up h = last_free [] h
