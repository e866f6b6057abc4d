-- The test of the check octets holds exactly where they are right.
use Rattle.std.proofs.Common.{◌≡◌, ℕ, ◌+◌, ◌-◌, ◌/◌, ◌%◌, ◌≤◌, Bool, true, false, cond, eqb, ltb, List, [], ◌∷◌, length, get_or, sym, refl, ap, ◌∙◌, ap₂, arith, length-drop, get_or-drop}
use Rattle.std.proofs.lemmas.Bool.{le-ltb, eq-eqb, eqb-true, ltb-false, and_parts}
use Rattle.frames.specs.Fcs.{fcs, before, behind, Checked, checks}

two_of : (xs : List ℕ) → length xs ≡ 2 → xs ≡ get_or xs 0 0 ∷ get_or xs 1 0 ∷ []
two_of [] e = absurd (omega arith)
two_of (a ∷ []) e = absurd (omega arith)
two_of (a ∷ b ∷ []) e = refl
two_of (a ∷ b ∷ c ∷ xs) e = absurd (omega arith)

-- the last two octets by name
pub last_two : (os : List ℕ) → 2 ≤ length os → behind os ≡ get_or os (length os - 2) 0 ∷ get_or os (length os - 1) 0 ∷ []
last_two os h =
    let l : length (behind os) ≡ 2 = simp length-drop (omega arith) in
    let p : length os - 2 + 0 ≡ length os - 2 = omega arith in
    let q : length os - 2 + 1 ≡ length os - 1 = omega arith in
    two_of (behind os) l
    ∙ ap₂ (λ x y. x ∷ y ∷ []) (get_or-drop (length os - 2) os 0 0 ∙ ap (λ k. get_or os k 0) p) (get_or-drop (length os - 2) os 1 0 ∙ ap (λ k. get_or os k 0) q)

unless : (a b : Bool) → cond a false b ≡ true → (a ≡ false) × (b ≡ true)
unless true b h = absurd (let z : ◌≡◌ {A = ℕ} 0 1 = cc in omega arith)
unless false b h = (refl, h)

pub checked_of : (os : List ℕ) → checks os ≡ true → (2 ≤ length os) × Checked os
checked_of os h =
    let f : ℕ = fcs (before os) in
    let u = unless (ltb (length os) 2) _ h in
    let b = and_parts (eqb (f % 256) (get_or os (length os - 2) 0)) (eqb (f / 256) (get_or os (length os - 1) 0)) u.1 in
    let l : 2 ≤ length os = ltb-false (length os) 2 u.0 in (
      l,
      last_two os l
          ∙ sym (ap₂ (λ x y. x ∷ y ∷ []) (eqb-true (f % 256) (get_or os (length os - 2) 0) b.0) (eqb-true (f / 256) (get_or os (length os - 1) 0) b.1)),
    )

heads : (a b c d : ℕ) → (a ∷ b ∷ []) ≡ (c ∷ d ∷ []) → (a ≡ c) × (b ≡ d)
heads a b c d e = (cc, cc)

pub checks_of : (os : List ℕ) → 2 ≤ length os → Checked os → checks os ≡ true
checks_of os h e =
    let f : ℕ = fcs (before os) in
    let s = heads (get_or os (length os - 2) 0) (get_or os (length os - 1) 0) (f % 256) (f / 256) (sym (last_two os h) ∙ e) in
    simp (le-ltb (length os) 2 h, eq-eqb (f % 256) (get_or os (length os - 2) 0) (sym s.0), eq-eqb (f / 256) (get_or os (length os - 1) 0) (sym s.1))
