-- What a ring holds after a read, a write, a push and a pop of one place, once its numbers lie within its memory.
use Rattle.std.proofs.Common.{◌≡◌, ℕ, zero, suc, ◌+◌, ◌-◌, ◌<◌, ◌≤◌, List, [], ◌∷◌, ◌++◌, length, get_or, take, drop, set, Some, None, sym, refl, ap, ◌∙◌, arith}
use lib.Seq.{take-set-lt}
use Rattle.std.proofs.lemmas.List.{length-drop, length-take-le, get_or-take, drop-set-lt, take_more_set, drop-take, drop-drop, take-append-le, drop-append-le}
use Rattle.lines.specs.Entries.{at}
use Rattle.lines.specs.Ring.{lane, slot, held, Blanked, Kept}
use Rattle.lines.specs.declared.ring.Ring.{Ring}
use Rattle.lines.proofs.Lanes.{lane_length, lane_set, lane_at, lane_pop}

module _ {E : Type 0} where
  -- what stands at a place, as get_or has it
  at_some : (d : E) (xs : List E) (i : ℕ) → i < length xs → at xs i ≡ Some (get_or xs i d)
  at_some d [] i h = absurd (omega arith)
  at_some d (x ∷ xs) zero h = refl
  at_some d (x ∷ xs) (suc i) h = at_some d xs i (omega arith)

  at_none : (xs : List E) (i : ℕ) → length xs ≤ i → at xs i ≡ None
  at_none [] i h = refl
  at_none (x ∷ xs) zero h = absurd (omega arith)
  at_none (x ∷ xs) (suc i) h = at_none xs i (omega arith)

  -- ---- a ring's numbers, once they lie within its memory
  pub record Within (s : List E) (cap first count : ℕ) : Type 0 where
    pub fits : cap ≤ length s
    pub starts : first ≤ cap
    pub holds : count ≤ cap

  module _ (s : List E) (cap first count : ℕ) (w : Within s cap first count) where
    lane_full : length (lane s cap first) ≡ cap
    lane_full = lane_length s cap first ∙ (let f = w.fits in omega arith)

    held_length : length (take count (lane s cap first)) ≡ count
    held_length = length-take-le count (lane s cap first) (let h = w.holds in omega (arith, lane_full))

    held_got : (i p : ℕ) (x : E) → i < count → p ≡ slot cap first i → x ≡ get_or s p x → Some x ≡ at (take count (lane s cap first)) i
    held_got i p x h q g =
        let a = at_some x (take count (lane s cap first)) i (omega (arith, held_length)) in
        let b = get_or-take count (lane s cap first) i x h in
        let l = lane_at s cap first i p x w.fits w.starts (let z = w.holds in omega arith) q in
        cc

    held_none : (i : ℕ) → count ≤ i → None ≡ at (take count (lane s cap first)) i
    held_none i h = sym (at_none (take count (lane s cap first)) i (omega (arith, held_length)))

    pub held_put : (i p : ℕ) (e : E) → i < count → p ≡ slot cap first i → take count (lane (set s p e) cap first) ≡ set (take count (lane s cap first)) i e
    held_put i p e h q = ap (λ y. take count y) (lane_set s cap first i p e w.fits w.starts (let z = w.holds in omega arith) q) ∙ take-set-lt count (lane s cap first) i e h

    pub free_put : (i p : ℕ) (e : E) → i < count → p ≡ slot cap first i → drop count (lane (set s p e) cap first) ≡ drop count (lane s cap first)
    free_put i p e h q = ap (λ y. drop count y) (lane_set s cap first i p e w.fits w.starts (let z = w.holds in omega arith) q) ∙ drop-set-lt count (lane s cap first) i e h

    pub held_push : (p : ℕ) (e : E) → count < cap → p ≡ slot cap first count → take (count + 1) (lane (set s p e) cap first) ≡ take count (lane s cap first) ++ e ∷ []
    held_push p e h q = ap (λ y. take (count + 1) y) (lane_set s cap first count p e w.fits w.starts h q) ∙ take_more_set (lane s cap first) count e (omega (arith, lane_full))

    pub free_push : (p : ℕ) (e : E) → count < cap → p ≡ slot cap first count → drop (count + 1) (lane (set s p e) cap first) ≡ drop 1 (drop count (lane s cap first))
    free_push p e h q =
        ap (λ y. drop (count + 1) y) (lane_set s cap first count p e w.fits w.starts h q) ∙ drop-set-lt (count + 1) (lane s cap first) count e (omega arith)
        ∙ sym (drop-drop 1 count (lane s cap first))

    pub held_pop : (p : ℕ) (b : E) → 0 < count → p ≡ slot cap first 0 → take (count - 1) (lane (set s p b) cap (p + 1)) ≡ drop 1 (take count (lane s cap first))
    held_pop p b h q =
        let c : count ≡ 1 + (count - 1) = omega arith in
        let l : length (drop 1 (lane s cap first)) ≡ cap - 1 = length-drop 1 (lane s cap first) ∙ ap (λ n. n - 1) lane_full in
        ap (λ y. take (count - 1) y) (lane_pop s cap first p b w.fits w.starts (let z = w.holds in omega arith) q)
        ∙ take-append-le (count - 1) (drop 1 (lane s cap first)) (b ∷ []) (let z = w.holds in omega arith)
        ∙ sym (ap (λ n. drop 1 (take n (lane s cap first))) c ∙ drop-take 1 (count - 1) (lane s cap first))

    pub free_pop : (p : ℕ) (b : E) → 0 < count → p ≡ slot cap first 0 → drop (count - 1) (lane (set s p b) cap (p + 1)) ≡ drop count (lane s cap first) ++ b ∷ []
    free_pop p b h q =
        let l : length (drop 1 (lane s cap first)) ≡ cap - 1 = length-drop 1 (lane s cap first) ∙ ap (λ n. n - 1) lane_full in
        ap (λ y. drop (count - 1) y) (lane_pop s cap first p b w.fits w.starts (let z = w.holds in omega arith) q)
        ∙ drop-append-le (count - 1) (drop 1 (lane s cap first)) (b ∷ []) (let z = w.holds in omega arith)
        ∙ ap (λ y. y ++ b ∷ []) (drop-drop (count - 1) 1 (lane s cap first) ∙ ap (λ n. drop n (lane s cap first)) (let e : 1 + (count - 1) ≡ count = omega arith in e))

  -- ---- the same of a ring
  abbrev pub within : (r : Ring E) → Within r.slots.now r.cap r.first r.count
  within r = record { fits = r.fits; starts = r.starts; holds = r.holds }

  pub len_is : (r : Ring E) → r.count ≡ length (held r)
  len_is r = sym (held_length r.slots.now r.cap r.first r.count (within r))

  pub got : (r : Ring E) (i p : ℕ) (x : E) → i < r.count → p ≡ slot r.cap r.first i → x ≡ get_or r.slots.now p x → Some x ≡ at (held r) i
  got r i p x h q g = held_got r.slots.now r.cap r.first r.count (within r) i p x h q g

  pub got_none : (r : Ring E) (i : ℕ) → r.count ≤ i → None ≡ at (held r) i
  got_none r i h = held_none r.slots.now r.cap r.first r.count (within r) i h

  -- ---- what several calls keep together
  pub kept_then : (b : E) (q r s : Ring E) → Kept b q r → Kept b r s → Kept b q s
  kept_then b q r s h k = record { slots = k.slots ∙ h.slots; rest = k.rest ∙ h.rest; blanks = λ x. k.blanks (h.blanks x) }

  pub blanks_kept : (b : E) (r s : Ring E) → Kept b r s → Blanked b r → Blanked b s
  blanks_kept b r s k h = k.blanks h
