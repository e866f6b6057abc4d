-- Octets as hexadecimal text: two digits an octet, the high one first; a lone '-' for no octets.
use Rattle.std.specs.Prelude.{ℕ, ◌+◌, ◌-◌, ◌*◌, ◌/◌, ◌%◌, cond, ◌&&◌, List, [], ◌∷◌, Some, None, codes, Option, nat_le, nat_lt}
use Rattle.std.specs.Str.{bytes_eq}

-- the value of a hexadecimal digit in either case
abbrev pub digit_value : ℕ → Option ℕ
digit_value o =
    cond (nat_le 48 o && nat_le o 57) (Some (o - 48))
    (cond (nat_le 97 o && nat_le o 102) (Some (o - 87))
    (cond (nat_le 65 o && nat_le o 70) (Some (o - 55)) None))

-- the octet of two digits
abbrev pub octet_by : Option ℕ → Option ℕ → Option ℕ
octet_by None low = None
octet_by (Some h) None = None
octet_by (Some h) (Some l) = Some (h * 16 + l)

abbrev pub octet_answer : ℕ → ℕ → Option ℕ
octet_answer high low = octet_by (digit_value high) (digit_value low)

-- an octet in front of the octets that follow, if there are both
abbrev pub before : Option ℕ → Option (List ℕ) → Option (List ℕ)
before None rest = None
before (Some o) None = None
before (Some o) (Some os) = Some (o ∷ os)

-- the octets that digits spell, if they are hexadecimal digits of an even number
abbrev pub spelled : List ℕ → Option (List ℕ)
spelled [] = Some []
spelled (h ∷ []) = None
spelled (h ∷ l ∷ rest) = before (octet_answer h l) (spelled rest)

-- the octets that a word stands for; the empty word, which stands where a word is missing, is refused
abbrev pub octets_answer : List ℕ → Option (List ℕ)
octets_answer [] = None
octets_answer (o ∷ os) = cond (bytes_eq (o ∷ os) (codes "-")) (Some []) (spelled (o ∷ os))

-- the digit of a value below 16, in lower case
abbrev pub digit_of : ℕ → ℕ
digit_of v = cond (nat_lt v 10) (48 + v) (87 + v)

abbrev pub digits_of : List ℕ → List ℕ
digits_of [] = []
digits_of (o ∷ os) = digit_of (o / 16) ∷ digit_of (o % 16) ∷ digits_of os

-- the word for a run of octets
abbrev pub text_of : List ℕ → List ℕ
text_of [] = codes "-"
text_of (o ∷ os) = digits_of (o ∷ os)
