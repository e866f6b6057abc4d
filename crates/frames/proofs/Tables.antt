-- A table that holds a function's values, and the register's step by such a table.
use Rattle.std.proofs.Common.{◌≡◌, ℕ, zero, suc, ◌+◌, ◌*◌, ◌/◌, ◌%◌, ◌<◌, List, [], ◌∷◌, get_or, sym, ap, ◌∙◌, le_of_suc-le-suc, not-suc-le-zero, add-zero, add-suc, suc-add, zero-add, arith}
use lib.Bits.{bit_xor, bit_and, and_mask, xor_assoc, xor_shifted}
use Rattle.frames.specs.Fcs.{shifts, taken}
use Rattle.frames.proofs.Linear.{shifts_xor, shifts_pow}

-- the values of f at n places from i on
abbrev pub values : (ℕ → ℕ) → ℕ → ℕ → List ℕ
values f i zero = []
values f i (suc n) = f i ∷ values f (suc i) n

value_from : (f : ℕ → ℕ) (i n k : ℕ) → k < n → get_or (values f i n) k 0 ≡ f (i + k)
value_from f i zero k h = absurd (not-suc-le-zero h)
value_from f i (suc n) zero h = ap f (sym (add-zero i))
value_from f i (suc n) (suc k) h = value_from f (suc i) n k (le_of_suc-le-suc h) ∙ ap f (suc-add i k ∙ sym (add-suc i k))

pub value_at : (f : ℕ → ℕ) (n k : ℕ) → k < n → get_or (values f 0 n) k 0 ≡ f k
value_at f n k h = value_from f 0 n k h ∙ ap f (zero-add k)

-- an octet by the table of what eight shifts leave
pub by_table : (r o : ℕ) → bit_xor (r / 256) (shifts 8 (bit_xor (bit_and r 255) o)) ≡ taken r o
unfolding taken
by_table r o =
    ap (λ m. bit_xor (r / 256) (shifts 8 (bit_xor m o))) (and_mask r 8)
    ∙ ap (λ h. bit_xor h (shifts 8 (bit_xor (r % 256) o))) (sym (shifts_pow 8 (r / 256)))
    ∙ sym (shifts_xor 8 (r / 256 * 256) (bit_xor (r % 256) o))
    ∙ ap (shifts 8)
    (sym (xor_assoc (r / 256 * 256) (r % 256) o) ∙ ap (λ x. bit_xor x o) (xor_shifted (r / 256) 8 (r % 256) (omega arith) ∙ whole r))
  where
    whole : (n : ℕ) → n / 256 * 256 + n % 256 ≡ n
    whole n = omega arith
