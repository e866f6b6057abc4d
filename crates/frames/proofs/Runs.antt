-- A run of octets as one number, bit b of the run as its bit b: the register is that number, shifted.
use Rattle.std.proofs.Common.{◌≡◌, ℕ, zero, suc, ◌+◌, ◌*◌, ◌/◌, ◌%◌, ◌^◌, ◌<◌, ◌≤◌, cond, eqb, List, [], ◌∷◌, ◌++◌, length, get_or, set, sym, refl, ap, ◌∙◌, ap₂, inl, inr, le_of_suc-le-suc, not-suc-le-zero, add-zero, mul_assoc, mul_comm, one-mul, pow-suc, zero-mul, mul-one, arith, length-set, pow_pos, pow-add}
use lib.Bits.{bit_xor, xor_comm, xor_assoc, xor_zero_r, xor_shifted, xor_block}
use Rattle.frames.specs.Fcs.{shifts, taken, register}
use Rattle.frames.specs.Bits.{flip_bit, flips}
use Rattle.frames.proofs.Linear.{bit, shifts_xor, shifts_add, shifts_pow}

abbrev pub number : List ℕ → ℕ
number [] = 0
number (o ∷ os) = bit_xor o (number os * 256)

pub register_number : (r : ℕ) (os : List ℕ) → register r os ≡ shifts (8 * length os) (bit_xor r (number os))
unfolding shifts taken
register_number r [] = sym (xor_zero_r r)
register_number r (o ∷ os) =
    let n : ℕ = length os in
    let m : ℕ = number os in
    let e : 8 * suc (length os) ≡ 8 + 8 * length os = omega arith in
    register_number (taken r o) os
    ∙ sym
    (ap (λ k. shifts k (bit_xor r (bit_xor o (m * 256)))) e
    ∙ shifts_add 8 (8 * n) (bit_xor r (bit_xor o (m * 256)))
    ∙ ap (shifts (8 * n))
    (ap (shifts 8) (sym (xor_assoc r o (m * 256))) ∙ shifts_xor 8 (bit_xor r o) (m * 256)
    ∙ ap (bit_xor (shifts 8 (bit_xor r o))) (shifts_pow 8 m)))

pub register_append : (r : ℕ) (xs ys : List ℕ) → register r (xs ++ ys) ≡ register (register r xs) ys
register_append r [] ys = refl
register_append r (x ∷ xs) ys = register_append (taken r x) xs ys

pub xor_scale : (k a b : ℕ) → bit_xor (a * 2 ^ k) (b * 2 ^ k) ≡ bit_xor a b * 2 ^ k
xor_scale k a b =
    ap₂ bit_xor (sym (add-zero (a * 2 ^ k))) (sym (add-zero (b * 2 ^ k))) ∙ xor_block k a b 0 0 (pow_pos k) (pow_pos k)
    ∙ add-zero (bit_xor a b * 2 ^ k)

-- (a + b) + c = (a + c) + b
pub xor_last : (a b c : ℕ) → bit_xor (bit_xor a b) c ≡ bit_xor (bit_xor a c) b
xor_last a b c = xor_assoc a b c ∙ ap (bit_xor a) (xor_comm b c) ∙ sym (xor_assoc a c b)

pub number_set : (os : List ℕ) (i m : ℕ) → i < length os
    → number (set os i (bit_xor (get_or os i 0) m)) ≡ bit_xor (number os) (m * 2 ^ (8 * i))
number_set [] i m h = absurd (not-suc-le-zero h)
number_set (o ∷ os) zero m h = xor_last o m (number os * 256) ∙ ap (bit_xor (bit_xor o (number os * 256))) (sym (mul-one m))
number_set (o ∷ os) (suc i) m h =
    let p : 8 * suc i ≡ 8 * i + 8 = omega arith in
    ap (λ n. bit_xor o (n * 256)) (number_set os i m (le_of_suc-le-suc h))
    ∙ ap (bit_xor o)
    (sym (xor_scale 8 (number os) (m * 2 ^ (8 * i)))
    ∙ ap (bit_xor (number os * 256))
    (mul_assoc m (2 ^ (8 * i)) 256 ∙ ap (λ x. m * x) (sym (pow-add 2 (8 * i) 8) ∙ ap (λ k. 2 ^ k) (sym p))))
    ∙ sym (xor_assoc o (number os * 256) (m * 2 ^ (8 * suc i)))

pub number_flip : (b : ℕ) (os : List ℕ) → b < 8 * length os → number (flip_bit b os) ≡ bit_xor (number os) (2 ^ b)
number_flip b os h =
    let p : b % 8 + 8 * (b / 8) ≡ b = omega arith in
    number_set os (b / 8) (2 ^ (b % 8)) (omega arith)
    ∙ ap (bit_xor (number os)) (sym (pow-add 2 (b % 8) (8 * (b / 8))) ∙ ap (λ k. 2 ^ k) p)

pub length_flip : (b : ℕ) (os : List ℕ) → length (flip_bit b os) ≡ length os
length_flip b os = length-set os (b / 8) _

-- one bit of the mask
maybe : ℕ → ℕ → List ℕ → List ℕ
maybe m start os = cond (eqb (m % 2) 1) (flip_bit start os) os

length_maybe : (m start : ℕ) (os : List ℕ) → length (maybe m start os) ≡ length os
unfolding maybe
length_maybe m start os = elim (bit m) [ inl e ↦ simp e | inr e ↦ simp e (length_flip start os) ]

number_maybe : (m start : ℕ) (os : List ℕ) → start < 8 * length os
    → number (maybe m start os) ≡ bit_xor (number os) (m % 2 * 2 ^ start)
unfolding maybe
number_maybe m start os h =
    elim (bit m) [
      | inl e ↦ simp (e, zero-mul, xor_zero_r)
      | inr e ↦ simp (e, one-mul) (number_flip start os h)
    ]

pub number_flips : (n start mask : ℕ) (os : List ℕ) → mask < 2 ^ n → start + n ≤ 8 * length os
    → number (flips n start mask os) ≡ bit_xor (number os) (mask * 2 ^ start)
unfolding flips maybe
number_flips zero start mask os h k = let z : mask ≡ 0 = omega arith in simp (z, zero-mul, xor_zero_r)
number_flips (suc n) start mask os h k =
    let q : 2 ^ suc n ≡ 2 ^ n * 2 = pow-suc 2 n in
    let l : length (maybe mask start os) ≡ length os = length_maybe mask start os in
    number_flips n (start + 1) (mask / 2) (maybe mask start os) (omega arith) (omega arith)
    ∙ ap₂ bit_xor (number_maybe mask start os (omega arith))
    (ap (λ x. mask / 2 * x) (pow-add 2 start 1) ∙ reorder (mask / 2) (2 ^ start))
    ∙ xor_assoc (number os) (mask % 2 * 2 ^ start) (mask / 2 * 2 * 2 ^ start)
    ∙ ap (bit_xor (number os))
    (xor_scale start (mask % 2) (mask / 2 * 2)
    ∙ ap (λ x. x * 2 ^ start)
    (xor_comm (mask % 2) (mask / 2 * 2) ∙ xor_shifted (mask / 2) 1 (mask % 2) (omega arith) ∙ whole mask))
  where
    reorder : (a p : ℕ) → a * (p * 2) ≡ a * 2 * p
    reorder a p = ap (λ x. a * x) (mul_comm p 2) ∙ sym (mul_assoc a 2 p)

    whole : (m : ℕ) → m / 2 * 2 + m % 2 ≡ m
    whole m = omega arith

pub length_flips : (n start mask : ℕ) (os : List ℕ) → length (flips n start mask os) ≡ length os
unfolding flips maybe
length_flips zero start mask os = refl
length_flips (suc n) start mask os = length_flips n (start + 1) (mask / 2) (maybe mask start os) ∙ length_maybe mask start os

-- a turn of the loop that flips: n bits are left, then m
pub flips_on : (n m start mask : ℕ) (os ps : List ℕ) → n ≡ suc m → ps ≡ cond (eqb (mask % 2) 1) (flip_bit start os) os
    → flips m (start + 1) (mask / 2) ps ≡ flips n start mask os
unfolding flips
flips_on n m start mask os ps e q = ap (flips m (start + 1) (mask / 2)) q ∙ ap (λ k. flips k start mask os) (sym e)

pub flips_done : (n start mask : ℕ) (os : List ℕ) → n ≡ 0 → os ≡ flips n start mask os
unfolding flips
flips_done n start mask os e = ap (λ k. flips k start mask os) (sym e)
