-- A decimal number is read digit by digit.
use Rattle.std.proofs.Common.{◌≡◌, ℕ, ◌+◌, ◌-◌, ◌*◌, ◌<◌, ◌≤◌, Bool, true, false, cond, not, ◌&&◌, eqb, leb, List, [], ◌∷◌, length, get_or, drop, Some, None, Option, sym, refl, ap, ◌∙◌, arith}
use Rattle.std.proofs.Math.Bool.{and-false}
use Rattle.std.proofs.lemmas.Bool.{lt-leb}
use Rattle.std.proofs.lemmas.List.{at_drop_more}
use Rattle.console.specs.Decimals.{all_digits, value_after, decimal_answer}

-- the digits that are left decide what all decide
pub record Sofar (most : ℕ) (os : List ℕ) (i v : ℕ) : Type 0 where
  pub small : v ≤ most
  pub value : value_after v (drop i os) ≡ value_after 0 os
  pub digits : all_digits (drop i os) ≡ all_digits os

pub value_ge : (n : ℕ) (os : List ℕ) → n ≤ value_after n os
value_ge n [] = omega arith
value_ge n (o ∷ os) = let h = value_ge (n * 10 + (o - 48)) os in omega arith

refused : (e d l : Bool) (v : ℕ) → (d && l) ≡ false → cond {A = Option ℕ} (not e && (d && l)) (Some v) None ≡ None
refused true d l v h = refl
refused false d l v h = ap (λ (b : Bool). cond b (Some v) None) h

-- the number is too large, whatever follows
pub refused_large : (most : ℕ) (os : List ℕ) (i v : ℕ) → i < length os → most < v * 10 + (get_or os i 0 - 48) → Sofar most os i v → decimal_answer most os ≡ None
refused_large most os i v h large s =
    let e = sym (at_drop_more (value_after v) os i 0 h) ∙ s.value in
    let g = value_ge (v * 10 + (get_or os i 0 - 48)) (drop (i + 1) os) in
    refused (eqb (length os) 0) (all_digits os) (leb (value_after 0 os) most) (value_after 0 os)
    (ap (λ (b : Bool). all_digits os && b) (lt-leb (value_after 0 os) most (omega arith)) ∙ and-false (all_digits os))
