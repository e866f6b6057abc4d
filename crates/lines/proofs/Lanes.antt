-- The slots of a ring read round: their length, a read, a write, one slot on, and slots all blank.
use Rattle.std.proofs.Common.{◌≡◌, ℕ, ◌+◌, ◌-◌, ◌<◌, ◌≤◌, min, List, [], ◌∷◌, ◌++◌, length, get_or, take, drop, set, sym, refl, ap, ◌∙◌, subst, ap₂, ⊎_elim, arith}
use lib.Seq.{take-set-lt}
use Rattle.std.specs.List.{AllByRecursion}
use Rattle.std.proofs.lemmas.List.{length-set, length-drop, length-take, length-append, length-take-le, get_or_append_left, get_or-append_right, get_or-drop, get_or-take, take_all, drop_all, take-set-le, drop-set-lt, drop-set-add, set-append_left, set-append_right, append-nil, append_assoc, take_more, drop_more}
use Rattle.std.proofs.ByRecursion.{All-from_get_or}
use Rattle.std.proofs.lemmas.Bool.Decides.{nat_tests}
use Rattle.std.proofs.lemmas.Bool.{cases_lt}
use Rattle.lines.specs.Ring.{lane, slot}

module _ {E : Type 0} where
  pub lane_length : (s : List E) (cap first : ℕ) → length (lane s cap first) ≡ min cap (length s)
  unfolding lane
  lane_length s cap first = simp (length-append, length-drop, length-take) (omega arith)

  -- a write to a slot
  pub lane_set : (s : List E) (cap first i p : ℕ) (e : E) → cap ≤ length s → first ≤ cap → i < cap → p ≡ slot cap first i →
      lane (set s p e) cap first ≡ set (lane s cap first) i e
  unfolding lane
  lane_set s cap first i p e l f h q =
      let z : List E = take cap s in
      let lz : length (take cap s) ≡ cap = length-take-le cap s l in
      let ld : length (drop first (take cap s)) ≡ cap - first = length-drop first (take cap s) ∙ ap (λ n. n - first) lz in
      let pc : p < cap = grind (arith, nat_tests) in
      let a : take cap (set s p e) ≡ set (take cap s) p e = take-set-lt cap s p e pc in
      ap (λ y. drop first y ++ take first y) a ∙
      ⊎_elim
      (λ (o : i < cap - first).
      let pe : p ≡ first + i = grind (arith, nat_tests) in
      ap₂ (λ x y. x ++ y) (ap (λ k. drop first (set (take cap s) k e)) pe ∙ drop-set-add first (take cap s) i e) (take-set-le first (take cap s) p e (omega arith))
      ∙ sym (set-append_left (drop first (take cap s)) (take first (take cap s)) i e (omega arith)))
      (λ (o : cap - first ≤ i).
      let pe : p ≡ i - (cap - first) = grind (arith, nat_tests) in
      ap₂ (λ x y. x ++ y) (drop-set-lt first (take cap s) p e (omega arith)) (take-set-lt first (take cap s) p e (omega arith) ∙ ap (λ k. set (take first (take cap s)) k e) pe)
      ∙ sym (set-append_right (drop first (take cap s)) (take first (take cap s)) (cap - first) i e ld o))
      (cases_lt i (cap - first))

  pub lane_at : (s : List E) (cap first i p : ℕ) (d : E) → cap ≤ length s → first ≤ cap → i < cap → p ≡ slot cap first i → get_or (lane s cap first) i d ≡ get_or s p d
  unfolding lane
  lane_at s cap first i p d l f h q =
      let lz : length (take cap s) ≡ cap = length-take-le cap s l in
      let ld : length (drop first (take cap s)) ≡ cap - first = length-drop first (take cap s) ∙ ap (λ n. n - first) lz in
      ⊎_elim
      (λ (o : i < cap - first).
      let pe : p ≡ first + i = grind (arith, nat_tests) in
      get_or_append_left (drop first (take cap s)) (take first (take cap s)) d i (omega arith) ∙ get_or-drop first (take cap s) i d ∙ get_or-take cap s (first + i) d (omega arith) ∙ ap (λ k. get_or s k d) (sym pe))
      (λ (o : cap - first ≤ i).
      let pe : p ≡ i - (cap - first) = grind (arith, nat_tests) in
      get_or-append_right (drop first (take cap s)) (take first (take cap s)) (cap - first) i d ld o ∙ get_or-take first (take cap s) (i - (cap - first)) d (omega arith) ∙ get_or-take cap s (i - (cap - first)) d (omega arith) ∙ ap (λ k. get_or s k d) (sym pe))
      (cases_lt i (cap - first))

  -- one slot on
  lane_step : (s : List E) (cap first p : ℕ) (d : E) → cap ≤ length s → first ≤ cap → 0 < cap → p ≡ slot cap first 0 →
      lane s cap (p + 1) ≡ drop 1 (lane s cap first) ++ take 1 (lane s cap first)
  unfolding lane
  lane_step s cap first p d l f h q =
      let lz : length (take cap s) ≡ cap = length-take-le cap s l in
      ⊎_elim
      (λ (o : first < cap).
      let pe : p ≡ first = grind (arith, nat_tests) in
      let dm : drop first (take cap s) ≡ get_or (take cap s) first d ∷ drop (first + 1) (take cap s) = drop_more (take cap s) first d (omega arith) in
      let tm : take (first + 1) (take cap s) ≡ take first (take cap s) ++ get_or (take cap s) first d ∷ [] = take_more (take cap s) first d (omega arith) in
      ap (λ k. drop (k + 1) (take cap s) ++ take (k + 1) (take cap s)) pe ∙ ap (λ y. drop (first + 1) (take cap s) ++ y) tm
      ∙ sym (append_assoc (drop (first + 1) (take cap s)) (take first (take cap s)) (get_or (take cap s) first d ∷ []))
      ∙ sym (ap (λ y. drop 1 (y ++ take first (take cap s)) ++ take 1 (y ++ take first (take cap s))) dm))
      (λ (o : cap ≤ first).
      let pe : p ≡ 0 = grind (arith, nat_tests) in
      let w : drop first (take cap s) ++ take first (take cap s) ≡ take cap s = ap₂ (λ x y. x ++ y) (drop_all first (take cap s) (omega arith)) (take_all first (take cap s) (omega arith)) in
      ap (λ k. drop (k + 1) (take cap s) ++ take (k + 1) (take cap s)) pe ∙ sym (ap (λ y. drop 1 y ++ take 1 y) w))
      (cases_lt first cap)

  front_one : (zs : List E) (b : E) → 0 < length zs → take 1 (set zs 0 b) ≡ b ∷ []
  front_one [] b h = absurd (omega arith)
  front_one (z ∷ zs) b h = refl

  -- the oldest slot made blank and put last
  pub lane_pop : (s : List E) (cap first p : ℕ) (b : E) → cap ≤ length s → first ≤ cap → 0 < cap → p ≡ slot cap first 0 →
      lane (set s p b) cap (p + 1) ≡ drop 1 (lane s cap first) ++ b ∷ []
  lane_pop s cap first p b l f h q =
      lane_step (set s p b) cap first p b (simp length-set l) f h q
      ∙ ap (λ y. drop 1 y ++ take 1 y) (lane_set s cap first 0 p b l f h q)
      ∙ ap₂ (λ x y. x ++ y) (drop-set-lt 1 (lane s cap first) 0 b (omega arith)) (front_one (lane s cap first) b (omega (arith, lane_length s cap first)))

  pub all_same : (P : E → Type 0) (xs ys : List E) → ys ≡ xs → AllByRecursion P xs → AllByRecursion P ys
  all_same P xs ys e h = subst (λ z. AllByRecursion P z) (sym e) h

  -- a memory whose slots are all blank
  pub lane_blank : (s : List E) (cap : ℕ) (b d : E) → ((k : ℕ) → k < cap → get_or s k b ≡ b) → b ≡ d → AllByRecursion (λ x. x ≡ d) (lane s cap 0)
  unfolding lane
  lane_blank s cap b d h e =
      all_same (λ x. x ≡ d) (take cap s) (take cap s ++ []) (append-nil (take cap s))
      (All-from_get_or (λ x. x ≡ d) (take cap s) b (λ k m.
      let n : k < cap = omega (arith, length-take cap s) in
      get_or-take cap s k b n ∙ h k n ∙ e))
