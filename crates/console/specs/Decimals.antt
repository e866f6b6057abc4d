-- Decimal numbers up to a bound.
use Rattle.std.specs.Prelude.{ℕ, ◌+◌, ◌-◌, ◌*◌, Bool, true, cond, not, ◌&&◌, List, [], ◌∷◌, length, Some, None, Option, ◌==◌, nat_le}

abbrev pub is_digit : ℕ → Bool
is_digit o = nat_le 48 o && nat_le o 57

abbrev pub all_digits : List ℕ → Bool
all_digits [] = true
all_digits (o ∷ os) = is_digit o && all_digits os

-- the number that digits spell behind a number that was spelled before
abbrev pub value_after : ℕ → List ℕ → ℕ
value_after n [] = n
value_after n (o ∷ os) = value_after (n * 10 + (o - 48)) os

-- one digit or more, and nothing else, that spell a number of at most that
abbrev pub decimal_answer : ℕ → List ℕ → Option ℕ
decimal_answer most os =
    cond (not (length os == 0) && (all_digits os && nat_le (value_after 0 os) most)) (Some (value_after 0 os)) None
