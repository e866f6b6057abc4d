-- The shift of the register is linear over xor, and no number within the register is shifted to 0 but 0 itself.
use Rattle.std.proofs.Common.{◌≡◌, ℕ, zero, suc, ◌+◌, ◌*◌, ◌/◌, ◌%◌, ◌^◌, ◌<◌, ◌⊎◌, sym, refl, ap, ◌∙◌, ap₂, inl, inr, mul_assoc, suc-add, pow-suc, zero-add, mul-one, arith}
use lib.Bits.{bit_xor, xor_shr, xor_mod, xor_comm, xor_assoc, xor_self, xor_zero_r, xor_lt}
use Rattle.frames.specs.Fcs.{shift, shifts}

below_two : (n : ℕ) → n < 2 → (n ≡ 0) ⊎ (n ≡ 1)
below_two zero h = inl refl
below_two (suc zero) h = inr refl
below_two (suc (suc n)) h = absurd (omega arith)

pub bit : (n : ℕ) → (n % 2 ≡ 0) ⊎ (n % 2 ≡ 1)
bit n = below_two (n % 2) (omega arith)

-- (a + b) + (c + d) = (a + c) + (b + d)
pub xor_middle : (a b c d : ℕ) → bit_xor (bit_xor a b) (bit_xor c d) ≡ bit_xor (bit_xor a c) (bit_xor b d)
xor_middle a b c d =
    xor_assoc a b (bit_xor c d) ∙ ap (bit_xor a) (sym (xor_assoc b c d) ∙ ap (λ x. bit_xor x d) (xor_comm b c) ∙ xor_assoc c b d)
    ∙ sym (xor_assoc a c (bit_xor b d))

fed : (a b : ℕ) → bit_xor a b % 2 * 0x8408 ≡ bit_xor (a % 2 * 0x8408) (b % 2 * 0x8408)
fed a b = ap (λ (x : ℕ). x * 0x8408) (xor_mod a b 1) ∙ go (a % 2) (b % 2) (bit a) (bit b)
  where
    go : (x y : ℕ) → (x ≡ 0) ⊎ (x ≡ 1) → (y ≡ 0) ⊎ (y ≡ 1) → bit_xor x y * 0x8408 ≡ bit_xor (x * 0x8408) (y * 0x8408)
    go x y (inl p) (inl q) = simp (p, q)
    go x y (inl p) (inr q) = simp (p, q)
    go x y (inr p) (inl q) = simp (p, q)
    go x y (inr p) (inr q) = simp (p, q)

pub shift_xor : (a b : ℕ) → shift (bit_xor a b) ≡ bit_xor (shift a) (shift b)
unfolding shift
shift_xor a b = ap₂ bit_xor (xor_shr a b 1) (fed a b) ∙ xor_middle (a / 2) (b / 2) (a % 2 * 0x8408) (b % 2 * 0x8408)

pub shifts_xor : (n a b : ℕ) → shifts n (bit_xor a b) ≡ bit_xor (shifts n a) (shifts n b)
unfolding shifts
shifts_xor zero a b = refl
shifts_xor (suc n) a b = ap (shifts n) (shift_xor a b) ∙ shifts_xor n (shift a) (shift b)

pub shifts_add : (j k x : ℕ) → shifts (j + k) x ≡ shifts k (shifts j x)
unfolding shifts
shifts_add zero k x = ap (λ n. shifts n x) (zero-add k)
shifts_add (suc j) k x = ap (λ n. shifts n x) (suc-add j k) ∙ shifts_add j k (shift x)

-- what stands above comes down
pub shift_double : (x : ℕ) → shift (x * 2) ≡ x
unfolding shift
shift_double x =
    let h : x * 2 / 2 ≡ x = omega arith in
    let l : x * 2 % 2 ≡ 0 = omega arith in
    ap₂ (λ (a b : ℕ). bit_xor a (b * 0x8408)) h l ∙ xor_zero_r x

pub shifts_pow : (k x : ℕ) → shifts k (x * 2 ^ k) ≡ x
unfolding shifts
shifts_pow zero x = mul-one x
shifts_pow (suc k) x =
    ap (shifts k) (ap shift (ap (λ (p : ℕ). x * p) (pow-suc 2 k) ∙ sym (mul_assoc x (2 ^ k) 2)) ∙ shift_double (x * 2 ^ k)) ∙ shifts_pow k x

-- what is within the register stays there
pub shift_lt : (x : ℕ) → x < 2 ^ 16 → shift x < 2 ^ 16
unfolding shift
shift_lt x h = xor_lt 16 (x / 2) (x % 2 * 0x8408) (omega arith) (omega arith)

-- two numbers whose sum is nothing are one
pub xor_same : (a b : ℕ) → bit_xor a b ≡ 0 → a ≡ b
xor_same a b e = sym (xor_zero_r a) ∙ ap (bit_xor a) (sym (xor_self b)) ∙ sym (xor_assoc a b b) ∙ ap (λ x. bit_xor x b) e

-- and what is not nothing does not become nothing
pub shift_zero : (x : ℕ) → x < 2 ^ 16 → shift x ≡ 0 → x ≡ 0
unfolding shift
shift_zero x h e = let s : x / 2 ≡ x % 2 * 0x8408 = xor_same (x / 2) (x % 2 * 0x8408) e in omega arith

pub shifts_zero : (n x : ℕ) → x < 2 ^ 16 → shifts n x ≡ 0 → x ≡ 0
unfolding shifts
shifts_zero zero x h e = e
shifts_zero (suc n) x h e = shift_zero x h (shifts_zero n (shift x) (shift_lt x h) e)
