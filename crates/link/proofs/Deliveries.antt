-- What is still to be taken in: room for it in a queue, and the I frames that bring it.
use Rattle.std.proofs.Common.{◌≡◌, ℕ, suc, ◌+◌, ◌%◌, ◌<◌, ◌≤◌, Bool, true, false, eqb, ltb, List, [], ◌∷◌, ◌++◌, length, get_or, drop, sym, refl, ap, ◌∙◌, subst, arith}
use Rattle.std.proofs.lemmas.List.{length_push, length-drop, drop_more}
use Rattle.std.proofs.lemmas.Bool.{eq-eqb, eqb-true, lt-ltb, and_from}
use Rattle.frames.specs.declared.kind.Kind.TheVariants.{I, Rr, Rnr}
use Rattle.frames.specs.Parts.{Parts, parts}
use Rattle.lines.specs.Entries.{Entry, struck, frame}
use Rattle.stations.specs.Station.{Block, Station, allowed, wanted, status_by}
use Rattle.stations.specs.Puts.{put, put_by, inform, again_from, again_by}
use Rattle.stations.specs.Rule.{heard_i, hear_i, heard_s}
use Rattle.link.specs.History.{Tally}
use Rattle.link.proofs.Flows.{within}
use Rattle.link.proofs.Tallies.{Sound}
use Rattle.link.proofs.Ends.{told}

-- ---- room

-- the queue of x has room for all that y accepted and x has yet to take in
pub record Room (x : Station) (xt yt : Tally) : Type 0 where
  pub free : length x.waiting + length yt.accepted ≤ length xt.taken + 7

-- 7 wait only where all has been taken in
pub room_full : {x : Station} {xt yt : Tally} → Room x xt yt → eqb (length x.waiting) 7 ≡ true →
    length yt.accepted ≤ length xt.taken
room_full {x} h e = omega (arith, h.free, eqb-true (length x.waiting) 7 e)

pub room_far : {x : Station} {xt yt zt : Tally} → zt.accepted ≡ yt.accepted → Room x xt yt → Room x xt zt
room_far e h = let l = ap length e in record { free = omega (arith, l, h.free) }

-- ---- what hearing a frame does to a tally, and to the room

module _ (x : Station) (xt : Tally) (nr : ℕ) (z : Block) where
  pub info_accepted : (v w : Bool) → (told z (heard_i v w x nr z) xt).accepted ≡ xt.accepted
  info_accepted false w = refl
  info_accepted true false = refl
  info_accepted true true = refl

  pub info_acknowledged : (v w : Bool) → xt.acknowledged ≤ (told z (heard_i v w x nr z) xt).acknowledged
  info_acknowledged false w = omega arith
  info_acknowledged true false = omega arith
  info_acknowledged true true = omega arith

  pub info_room : (v w : Bool) (yt : Tally) → Room x xt yt → Room (heard_i v w x nr z).station (told z (heard_i v w x nr z) xt) yt
  info_room false w yt h = record { free = h.free }
  info_room true false yt h = record { free = h.free }
  info_room true true yt h = record { free = omega (arith, h.free, length_push x.waiting z, length_push xt.taken z) }

  pub status_accepted : (v busy : Bool) → (told z (heard_s v x busy nr) xt).accepted ≡ xt.accepted
  status_accepted false busy = refl
  status_accepted true busy = refl

  pub status_acknowledged : (v busy : Bool) → xt.acknowledged ≤ (told z (heard_s v x busy nr) xt).acknowledged
  status_acknowledged false busy = omega arith
  status_acknowledged true busy = omega arith

  pub status_taken : (v busy : Bool) → (told z (heard_s v x busy nr) xt).taken ≡ xt.taken
  status_taken false busy = refl
  status_taken true busy = refl

  pub status_room : (v busy : Bool) (yt : Tally) → Room x xt yt → Room (heard_s v x busy nr).station (told z (heard_s v x busy nr) xt) yt
  status_room false busy yt h = record { free = h.free }
  status_room true busy yt h = record { free = h.free }

-- ---- the frames that bring blocks

-- among status frames, I frames with the numbers of the blocks from r up to n, in order
pub data Delivers (n : ℕ) : ℕ → List Entry → Type 0 where
  all_there : {r : ℕ} → r ≡ n → Delivers n r []
  past_struck : {r a : ℕ} {es : List Entry} → Delivers n r es → Delivers n r (struck a ∷ es)
  past_rr : {r a ns nr b : ℕ} {x : Block} {es : List Entry} →
      Delivers n r es → Delivers n r (frame a (parts Rr ns nr b x) ∷ es)
  past_rnr : {r a ns nr b : ℕ} {x : Block} {es : List Entry} →
      Delivers n r es → Delivers n r (frame a (parts Rnr ns nr b x) ∷ es)
  next_block : {r a ns nr b : ℕ} {x : Block} {es : List Entry} →
      r % 8 ≡ ns → r < n → Delivers n (r + 1) es → Delivers n r (frame a (parts I ns nr b x) ∷ es)

pub delivers_end : {n r : ℕ} → Delivers n r [] → r ≡ n
delivers_end (all_there e) = e

pub delivers_struck : {n r a : ℕ} {es : List Entry} → Delivers n r (struck a ∷ es) → Delivers n r es
delivers_struck (past_struck d) = d

pub delivers_info : {n r a ns nr b : ℕ} {x : Block} {es : List Entry} →
    Delivers n r (frame a (parts I ns nr b x) ∷ es) → (r % 8 ≡ ns) × (r < n) × Delivers n (r + 1) es
delivers_info (next_block e l d) = (e, l, d)

pub delivers_status : (busy : Bool) {n r a ns nr b : ℕ} {x : Block} {es : List Entry} →
    Delivers n r (frame a (parts (status_by busy) ns nr b x) ∷ es) → Delivers n r es
delivers_status true (past_rnr d) = d
delivers_status false (past_rr d) = d

pub past_status : (busy : Bool) {n r a ns nr b : ℕ} {x : Block} {es : List Entry} →
    Delivers n r es → Delivers n r (frame a (parts (status_by busy) ns nr b x) ∷ es)
past_status true d = past_rnr d
past_status false d = past_rr d

-- where there is room, the next block is taken in
pub info_next : {x : Station} {xt yt : Tally} (ns nr : ℕ) (z : Block) →
    allowed x nr ≡ true → Sound x xt → Room x xt yt → length xt.taken % 8 ≡ ns → length xt.taken < length yt.accepted →
    length (told z (hear_i x ns nr z) xt).taken ≡ length xt.taken + 1
info_next {x} {xt} ns nr z ok h r e l =
    let this : eqb ns x.vr ≡ true = eq-eqb ns x.vr (sym e ∙ sym h.vr_is) in
    let free : ltb (length x.waiting) 7 ≡ true = lt-ltb (length x.waiting) 7 (omega (arith, r.free)) in
    let wants : wanted x ns ≡ true = and_from (eqb ns x.vr) (ltb (length x.waiting) 7) this free in
    let P : Bool → Type 0 = λ v. length (told z (heard_i v (wanted x ns) x nr z) xt).taken ≡ length xt.taken + 1 in
    let Q : Bool → Type 0 = λ w. length (told z (heard_i true w x nr z) xt).taken ≡ length xt.taken + 1 in
    subst P (sym ok) (subst Q (sym wants) (length_push xt.taken z))

-- ---- sending again

pub window_most : {x : Station} {xt : Tally} → Sound x xt → length x.window ≤ 7
window_most {x} {xt} h =
    let l = ap length h.window_is in omega (arith, l, length-drop xt.acknowledged xt.accepted, h.room)

pub put_length : (room : Bool) (es : List Entry) (f : Parts) → length (put_by room es f) ≤ length es + 1
put_length true es f = omega (arith, length_push es (frame 0 f))
put_length false es f = omega arith

again_from_length : (k : ℕ) (x : Station) (ns : ℕ) (zs : List Block) (es : List Entry) →
    length (again_from k x ns zs es) ≤ length es + length zs
again_from_length k x ns [] es = omega arith
again_from_length k x ns (z ∷ zs) es =
    let h = again_from_length k x ((ns + 1) % 8) zs (put k es (inform x ns z)) in
    let l = put_length (ltb (length es) k) es (inform x ns z) in
    omega arith

pub again_length : (busy : Bool) (k : ℕ) (x : Station) (es : List Entry) → length x.window ≤ 7 →
    length (again_by busy k x es) ≤ length es + 7
again_length true k x es h = omega arith
again_length false k x es h = omega (arith, again_from_length k x x.va x.window es)

-- one block more
delivers_push : {n r : ℕ} {es : List Entry} (ns nr b : ℕ) (x : Block) → n % 8 ≡ ns → r ≤ n →
    Delivers n r es → Delivers (n + 1) r (es ++ (frame 0 (parts I ns nr b x) ∷ []))
delivers_push ns nr b x e l (all_there q) = next_block (ap (λ m. m % 8) q ∙ e) (omega arith) (all_there (omega arith))
delivers_push ns nr b x e l (past_struck d) = past_struck (delivers_push ns nr b x e l d)
delivers_push ns nr b x e l (past_rr d) = past_rr (delivers_push ns nr b x e l d)
delivers_push ns nr b x e l (past_rnr d) = past_rnr (delivers_push ns nr b x e l d)
delivers_push ns nr b x e l (next_block q m d) = next_block q (omega arith) (delivers_push ns nr b x e (omega arith) d)

-- where the way has room, all that is outstanding is put again
again_from_delivers : (blocks : List Block) (k : ℕ) (x : Station) (ns n r : ℕ) (zs : List Block) (es : List Entry) →
    n % 8 ≡ ns → zs ≡ drop n blocks → n ≤ length blocks → r ≤ n → length es + length zs ≤ k →
    Delivers n r es → Delivers (length blocks) r (again_from k x ns zs es)
again_from_delivers blocks k x ns n r [] es e q l m room d =
    let z = ap length q in
    subst (λ u. Delivers u r es) (omega (arith, z, length-drop n blocks)) d
again_from_delivers blocks k x ns n r (z ∷ zs) es e q l m room d =
    let i : n < length blocks = within n blocks z zs q in
    let both : z ∷ zs ≡ get_or blocks n [] ∷ drop (n + 1) blocks = q ∙ drop_more blocks n [] i in
    let tail : zs ≡ drop (n + 1) blocks = cc in
    let ok : ltb (length es) k ≡ true = lt-ltb (length es) k (omega arith) in
    let P : Bool → Type 0 = λ v. Delivers (length blocks) r (again_from k x ((ns + 1) % 8) zs (put_by v es (inform x ns z))) in
    subst P (sym ok) (again_from_delivers blocks k x ((ns + 1) % 8) (n + 1) r zs (es ++ (frame 0 (inform x ns z) ∷ []))
    (omega arith) tail (omega arith) (omega arith) (omega (arith, length_push es (frame 0 (inform x ns z)))) (delivers_push ns x.vr 0 z e m d))

-- what x sends again behind a status frame or nothing, where it knows what y took in; it is silent only where y took in all
pub again_delivers : {x : Station} {xt : Tally} (yt : Tally) → Sound x xt → (k : ℕ) → 8 ≤ k → (busy : Bool) (es : List Entry) →
    length es ≤ 1 → xt.acknowledged ≡ length yt.taken → length yt.taken ≤ length xt.accepted →
    (busy ≡ true → length xt.accepted ≤ length yt.taken) → Delivers (length yt.taken) (length yt.taken) es →
    Delivers (length xt.accepted) (length yt.taken) (again_by busy k x es)
again_delivers yt sound k wide true es one q top silent d =
    let f = silent refl in subst (λ u. Delivers u (length yt.taken) es) (omega arith) d
again_delivers {x} {xt} yt sound k wide false es one q top silent d =
    let small = window_most sound in
    again_from_delivers xt.accepted k x x.va (length yt.taken) (length yt.taken) x.window es
    (ap (λ u. u % 8) (sym q) ∙ sym sound.va_is) (sound.window_is ∙ ap (λ u. drop u xt.accepted) q) top (omega arith) (omega arith) d

-- ---- what stands first stays first

put_head : (room : Bool) (e : Entry) (es : List Entry) (f : Parts) → put_by room (e ∷ es) f ≡ e ∷ put_by room es f
put_head true e es f = refl
put_head false e es f = refl

again_from_head : (k : ℕ) (x : Station) (ns : ℕ) (zs : List Block) (e : Entry) (es : List Entry) →
    (fs : List Entry) × (again_from k x ns zs (e ∷ es) ≡ e ∷ fs)
again_from_head k x ns [] e es = (es, refl)
again_from_head k x ns (z ∷ zs) e es =
    let room = ltb (suc (length es)) k in
    let h = again_from_head k x ((ns + 1) % 8) zs e (put_by room es (inform x ns z)) in
    (h.0, ap (again_from k x ((ns + 1) % 8) zs) (put_head room e es (inform x ns z)) ∙ h.1)

pub again_head : (busy : Bool) (k : ℕ) (x : Station) (e : Entry) → (fs : List Entry) × (again_by busy k x (e ∷ []) ≡ e ∷ fs)
again_head true k x e = ([], refl)
again_head false k x e = again_from_head k x x.va x.window e []
