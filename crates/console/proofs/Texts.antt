-- Octets that are written as hexadecimal text are read back.
use Rattle.std.proofs.Common.{◌≡◌, ℕ, ◌/◌, ◌<◌, Bool, true, false, cond, ◌&&◌, eqb, List, [], ◌∷◌, length, get_or, Some, sym, refl, ap, ◌∙◌, arith}
use Rattle.std.proofs.Math.Bool.{and-false}
use Rattle.std.specs.Result.{result_ok}
use Rattle.hex.proofs.HexLemmas.{decode_pairs-encode_with, IsDigits-lower_digits}
use Rattle.hex.specs.Hex.{lower_digits, encode_lower}
use Rattle.console.proofs.Spelling.{written, pairs_read}
use Rattle.console.specs.Hex.{spelled, octets_answer, digit_of, digits_of, text_of}

spelled_back : (os : List ℕ) → ((k : ℕ) → get_or os k 0 < 256) → spelled (digits_of os) ≡ Some os
spelled_back os h = ap spelled (sym (written os h)) ∙ sym (pairs_read 0 (encode_lower os)) ∙ ap result_ok (decode_pairs-encode_with lower_digits IsDigits-lower_digits 0 os h)

-- the text of octets stands for them
pub text_back : (os : List ℕ) → ((k : ℕ) → get_or os k 0 < 256) → octets_answer (text_of os) ≡ Some os
text_back [] h = refl
text_back (o ∷ os) h =
    ap (λ (b : Bool). cond b (Some []) (spelled (digits_of (o ∷ os)))) (and-false (eqb (digit_of (o / 16)) 45)) ∙ spelled_back (o ∷ os) h

pub text_some : (os : List ℕ) → 0 < length os → digits_of os ≡ text_of os
text_some [] h = absurd (omega arith)
text_some (o ∷ os) h = refl
