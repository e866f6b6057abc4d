-- Requests and answers on a way: how many there are, and how old.
use Rattle.std.proofs.Common.{◌≡◌, ℕ, zero, suc, ◌+◌, ◌%◌, ◌≤◌, Bool, true, false, cond, eqb, ltb, leb, List, [], ◌∷◌, ◌++◌, length, is_ok, refl, arith}
use Rattle.std.proofs.lemmas.Bool.{leb-true, both_ways}
use Rattle.frames.specs.declared.kind.Kind.TheVariants.{I, Rr, Rnr, Sarm, Disc, Ua, Dm}
use Rattle.frames.specs.Parts.{Parts, parts}
use Rattle.lines.specs.Entries.{Entry, struck, frame, at}
use Rattle.lines.specs.Line.{older, keep_by, hit_at, strike_by}
use Rattle.stations.specs.Station.{Block, Station, status_by}
use Rattle.stations.specs.Puts.{put_by, inform, again_from, again_by}
use Rattle.link.specs.Calls.{struck_way}

-- a request or an answer: SARM, DISC, UA, DM, and RR or RNR with B 1
abbrev pub marked : Parts → Bool
marked (parts I ns nr b x) = false
marked (parts Rr ns nr b x) = eqb b 1
marked (parts Rnr ns nr b x) = eqb b 1
marked (parts Sarm ns nr b x) = true
marked (parts Disc ns nr b x) = true
marked (parts Ua ns nr b x) = true
marked (parts Dm ns nr b x) = true

pub marked_status : (busy : Bool) (ns nr b : ℕ) (x : Block) → marked (parts (status_by busy) ns nr b x) ≡ eqb b 1
marked_status true ns nr b x = refl
marked_status false ns nr b x = refl

-- no entry is older than d; at most one frame is marked (none where the index is false), and of its age P holds
pub data Marks (d : ℕ) (P : ℕ → Type 0) : Bool → List Entry → Type 0 where
  empty : {w : Bool} → Marks d P w []
  blank : {w : Bool} {a : ℕ} {es : List Entry} → a ≤ d → Marks d P w es → Marks d P w (struck a ∷ es)
  unmarked : {w : Bool} {a : ℕ} {f : Parts} {es : List Entry} →
      marked f ≡ false → a ≤ d → Marks d P w es → Marks d P w (frame a f ∷ es)
  mark : {a : ℕ} {f : Parts} {es : List Entry} →
      marked f ≡ true → a ≤ d → P a → Marks d P false es → Marks d P true (frame a f ∷ es)

module _ {d : ℕ} {P : ℕ → Type 0} where
  pub marks_any : (Q : ℕ → Type 0) (w : Bool) {es : List Entry} → Marks d P false es → Marks d Q w es
  marks_any Q w empty = empty
  marks_any Q w (blank l h) = blank l (marks_any Q w h)
  marks_any Q w (unmarked m l h) = unmarked m l (marks_any Q w h)

  -- of its age nothing need be known
  pub marks_some : {w : Bool} {es : List Entry} → Marks d P w es → Marks d (λ a. Unit {0}) w es
  marks_some empty = empty
  marks_some (blank l h) = blank l (marks_some h)
  marks_some (unmarked m l h) = unmarked m l (marks_some h)
  marks_some (mark m l p h) = mark m l tt (marks_some h)

  marks_true : {w : Bool} {es : List Entry} → Marks d P w es → Marks d P true es
  marks_true empty = empty
  marks_true (blank l h) = blank l (marks_true h)
  marks_true (unmarked m l h) = unmarked m l (marks_true h)
  marks_true (mark m l p h) = mark m l p h

  -- the marked frame leaves
  pub marks_after : {a : ℕ} {f : Parts} {es : List Entry} (w : Bool) →
      marked f ≡ true → Marks d P w (frame a f ∷ es) → Marks d P false es
  marks_after w e (unmarked m l h) = absurd (both_ways _ m e)
  marks_after w e (mark m l p h) = h

  pub marks_age : {a : ℕ} {f : Parts} {es : List Entry} (w : Bool) →
      marked f ≡ true → Marks d P w (frame a f ∷ es) → (a ≤ d) × P a
  marks_age w e (unmarked m l h) = absurd (both_ways _ m e)
  marks_age w e (mark m l p h) = (l, p)

  pub no_mark : {a : ℕ} {f : Parts} {es : List Entry} → marked f ≡ true → Marks d P false (frame a f ∷ es) → ⊥
  no_mark e (unmarked m l h) = both_ways _ m e

  marks_push : {w : Bool} {es : List Entry} (f : Parts) →
      marked f ≡ false → Marks d P w es → Marks d P w (es ++ (frame 0 f ∷ []))
  marks_push f e empty = unmarked e (omega arith) empty
  marks_push f e (blank l h) = blank l (marks_push f e h)
  marks_push f e (unmarked m l h) = unmarked m l (marks_push f e h)
  marks_push f e (mark m l p h) = mark m l p (marks_push f e h)

  marks_ask : {es : List Entry} (f : Parts) →
      marked f ≡ true → P 0 → Marks d P false es → Marks d P true (es ++ (frame 0 f ∷ []))
  marks_ask f e q empty = mark e (omega arith) q empty
  marks_ask f e q (blank l h) = blank l (marks_ask f e q h)
  marks_ask f e q (unmarked m l h) = unmarked m l (marks_ask f e q h)

  -- a marked frame goes out, or is lost
  pub marks_put_mark : {es : List Entry} (room : Bool) (f : Parts) →
      marked f ≡ true → P 0 → Marks d P false es → Marks d P true (put_by room es f)
  marks_put_mark true f e q h = marks_ask f e q h
  marks_put_mark false f e q h = marks_true h

  marks_hit : (place : ℕ) {w : Bool} {es : List Entry} → Marks d P w es → Marks d P w (hit_at place es)
  marks_hit place empty = empty
  marks_hit zero (blank l h) = blank l h
  marks_hit zero (unmarked m l h) = blank l h
  marks_hit zero (mark m l p h) = blank l (marks_true h)
  marks_hit (suc place) (blank l h) = blank l (marks_hit place h)
  marks_hit (suc place) (unmarked m l h) = unmarked m l (marks_hit place h)
  marks_hit (suc place) (mark m l p h) = mark m l p (marks_hit place h)

  keep_blank : (v : Bool) (a : ℕ) {w : Bool} {es : List Entry} →
      leb (a + 1) d ≡ v → Marks d P w es → Marks d P w (keep_by v (struck (a + 1)) es)
  keep_blank true a e h = blank (leb-true (a + 1) d e) h
  keep_blank false a e h = h

  keep_unmarked : (v : Bool) (a : ℕ) (f : Parts) {w : Bool} {es : List Entry} →
      leb (a + 1) d ≡ v → marked f ≡ false → Marks d P w es → Marks d P w (keep_by v (frame (a + 1) f) es)
  keep_unmarked true a f e m h = unmarked m (leb-true (a + 1) d e) h
  keep_unmarked false a f e m h = h

  keep_mark : (v : Bool) (a : ℕ) (f : Parts) {es : List Entry} →
      leb (a + 1) d ≡ v → marked f ≡ true → (a + 1 ≤ d → P (a + 1)) → Marks d P false es →
      Marks d P true (keep_by v (frame (a + 1) f) es)
  keep_mark true a f e m p h = let l = leb-true (a + 1) d e in mark m l (p l) h
  keep_mark false a f e m p h = marks_true h

  -- no marked frame can be there
  marks_none : (Q : ℕ → Type 0) (w : Bool) → ((a : ℕ) → P a → ⊥) →
      {es : List Entry} → Marks d P w es → Marks d Q false es
  marks_none Q w out empty = empty
  marks_none Q w out (blank l h) = blank l (marks_none Q w out h)
  marks_none Q w out (unmarked m l h) = unmarked m l (marks_none Q w out h)
  marks_none Q w out (mark m l p h) = absurd (out _ p)

module _ {d : ℕ} {P : ℕ → Type 0} where
  -- a tick: of a marked frame that stays, Q holds
  pub marks_older : (Q : ℕ → Type 0) → ((a : ℕ) → P a → a + 1 ≤ d → Q (a + 1)) →
      {w : Bool} {es : List Entry} → Marks d P w es → Marks d Q w (older d es)
  marks_older Q up empty = empty
  marks_older Q up (blank {a = a} l h) = keep_blank (leb (a + 1) d) a refl (marks_older Q up h)
  marks_older Q up (unmarked {a = a} {f = f} m l h) = keep_unmarked (leb (a + 1) d) a f refl m (marks_older Q up h)
  marks_older Q up (mark {a = a} {f = f} m l p h) = keep_mark (leb (a + 1) d) a f refl m (up a p) (marks_older Q up h)

  -- a tick at which a marked frame cannot stay
  pub marks_out : (Q : ℕ → Type 0) (w : Bool) → ((a : ℕ) → P a → a + 1 ≤ d → ⊥) →
      {es : List Entry} → Marks d P w es → Marks d Q false (older d es)
  marks_out Q w out h = marks_none Q w (λ a n. n) (marks_older (λ _. ⊥) out h)

-- ---- changes of a way that bring no mark

abbrev pub Unmarking : ℕ → List Entry → List Entry → Type 1
Unmarking d es fs = (P : ℕ → Type 0) (w : Bool) → Marks d P w es → Marks d P w fs

module _ {d : ℕ} where
  -- the front leaves
  pub marks_tail : {e : Entry} {es : List Entry} → Unmarking d (e ∷ es) es
  marks_tail P w (blank l h) = h
  marks_tail P w (unmarked m l h) = h
  marks_tail P w (mark m l p h) = marks_true h

  -- a frame without a mark goes out, or is lost
  pub marks_put : {es : List Entry} (room : Bool) (f : Parts) → marked f ≡ false → Unmarking d es (put_by room es f)
  marks_put true f e P w h = marks_push f e h
  marks_put false f e P w h = h

  -- a strike
  pub marks_strike : (place start mask : ℕ) (es : List Entry) → Unmarking d es (struck_way place start mask es)
  marks_strike place start mask es P w h = go (is_ok (strike_by (at es place) start mask))
    where
      go : (v : Bool) → Marks d P w (cond v (hit_at place es) es)
      go true = marks_hit place h
      go false = h

  -- outstanding blocks are sent again
  marks_again_from : (k : ℕ) (x : Station) (ns : ℕ) (zs : List Block) {es : List Entry} →
      Unmarking d es (again_from k x ns zs es)
  marks_again_from k x ns [] P w h = h
  marks_again_from k x ns (z ∷ zs) {es} P w h =
      marks_again_from k x ((ns + 1) % 8) zs P w (marks_put (ltb (length es) k) (inform x ns z) refl P w h)

  pub marks_again : (busy : Bool) (k : ℕ) (x : Station) {es : List Entry} → Unmarking d es (again_by busy k x es)
  marks_again true k x P w h = h
  marks_again false k x P w h = marks_again_from k x x.va x.window P w h
