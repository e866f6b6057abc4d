-- Octets that the library's hexadecimal text stands for, in the words of Hex.antt.
use Rattle.std.proofs.Common.{MatchResult, is_ok, cond, ◌≡◌, ℕ, zero, suc, ◌+◌, ◌*◌, ◌/◌, ◌%◌, ◌<◌, ◌==◌, Bool, true, false, ◌&&◌, inl, inr, List, [], ◌∷◌, length, get_or, slice_index, Some, None, Option, Ok, Err, Result, sym, refl, ap, ◌∙◌, ap₂, arith}
use Rattle.std.proofs.lemmas.Bool.{true≢false, and_parts, cases_lt, eqb-true}
use Rattle.std.proofs.lemmas.Bool.Decides.{nat_tests}
use Rattle.std.specs.Bool.{then_some}
use Rattle.std.specs.Char.{is_ascii_hexdigit}
use Rattle.std.specs.List.{list_all}
use Rattle.std.specs.Option.{option_map}
use Rattle.std.specs.Result.{result_ok}
use Rattle.hex.proofs.Pairs.{decode_sized-pairs}
use Rattle.hex.specs.declared.error.FromHexError.{FromHexError}
use Rattle.hex.specs.declared.error.FromHexError.TheVariants.{OddLength}
use Rattle.hex.specs.Hex.{◌>>=◌, lower_digits, encode_with, encode_lower, hex_digit_value, digit_or_error, pair_value, decode_pairs, decode_sized}
use Rattle.console.specs.Hex.{digit_value, octet_by, octet_answer, before, spelled, digit_of, digits_of}

-- ---- the digits that are written

abbrev agree_below : ℕ → Bool
agree_below zero = true
agree_below (suc n) = (slice_index lower_digits n == digit_of n) && agree_below n

agree_at : (n v : ℕ) → agree_below n ≡ true → v < n → slice_index lower_digits v ≡ digit_of v
agree_at zero v h lt = absurd (omega arith)
agree_at (suc n) v h lt =
    let parts = and_parts (slice_index lower_digits n == digit_of n) (agree_below n) h in
    elim (cases_lt v n) [
      | inl below ↦ agree_at n v parts.1 below
      | inr top ↦
          let e : v ≡ n = omega arith in
          rw e (eqb-true _ _ parts.0)
    ]

pub written : (os : List ℕ) → ((k : ℕ) → get_or os k 0 < 256) → encode_lower os ≡ digits_of os
unfolding encode_with
written [] h = refl
written (o ∷ os) h =
    let b = h 0 in
    ap₂ (λ (d : ℕ) (ds : List ℕ). d ∷ ds) (agree_at 16 (o / 16) refl (omega arith))
    (ap₂ (λ (d : ℕ) (ds : List ℕ). d ∷ ds) (agree_at 16 (o % 16) refl (omega arith)) (written os (λ k. h (suc k))))

-- ---- the digits that are read

same_value : (o : ℕ) → hex_digit_value o ≡ digit_value o
same_value o = grind (arith, nat_tests)

pair_by : (h l i : ℕ) (a b : Option ℕ) → result_ok (digit_or_error h i a >>= λ x. digit_or_error l (i + 1) b >>= λ y. Ok (x * 16 + y)) ≡ octet_by a b
pair_by h l i None b = refl
pair_by h l i (Some x) None = refl
pair_by h l i (Some x) (Some y) = refl

pair_read : (h l i : ℕ) → result_ok (pair_value h l i) ≡ octet_answer h l
pair_read h l i = pair_by h l i (hex_digit_value h) (hex_digit_value l) ∙ ap₂ octet_by (same_value h) (same_value l)

joined : (r : Result ℕ FromHexError) (s : Result (List ℕ) FromHexError) → result_ok (r >>= λ o. s >>= λ os. Ok (o ∷ os)) ≡ before (result_ok r) (result_ok s)
joined (Err e) s = refl
joined (Ok o) (Err e) = refl
joined (Ok o) (Ok os) = refl

pub pairs_read : (i : ℕ) (ds : List ℕ) → result_ok (decode_pairs i ds) ≡ spelled ds
unfolding decode_pairs
pairs_read i [] = refl
pairs_read i (d ∷ []) = refl
pairs_read i (h ∷ l ∷ rest) =
    joined (pair_value h l i) (decode_pairs (i + 2) rest) ∙ ap₂ before (pair_read h l i) (pairs_read (i + 2) rest)

before_none : (o : Option ℕ) → before o None ≡ None
before_none None = refl
before_none (Some o) = refl

odd_spelled : (ds : List ℕ) → length ds % 2 ≡ 1 → spelled ds ≡ None
odd_spelled [] h = absurd (omega arith)
odd_spelled (d ∷ []) h = refl
odd_spelled (h ∷ l ∷ rest) odd = ap (before (octet_answer h l)) (odd_spelled rest (omega arith)) ∙ before_none (octet_answer h l)

-- a digit that is none spells nothing, wherever it stands
not_digit : (o : ℕ) → is_ascii_hexdigit o ≡ false → digit_value o ≡ None
not_digit o h = grind (arith, nat_tests)

octet_none : (o : Option ℕ) → octet_by o None ≡ None
octet_none None = refl
octet_none (Some o) = refl

wrong_pair : (h l : ℕ) (rest : List ℕ) (a b : Bool)
    → is_ascii_hexdigit h ≡ a
    → is_ascii_hexdigit l ≡ b
    → (a && (b && list_all is_ascii_hexdigit rest)) ≡ false
    → (list_all is_ascii_hexdigit rest ≡ false → spelled rest ≡ None)
    → before (octet_answer h l) (spelled rest) ≡ None
wrong_pair h l rest false b eh el e behind = ap (λ o. before (octet_by o (digit_value l)) (spelled rest)) (not_digit h eh)
wrong_pair h l rest true false eh el e behind =
    ap (λ o. before (octet_by (digit_value h) o) (spelled rest)) (not_digit l el)
    ∙ ap (λ o. before o (spelled rest)) (octet_none (digit_value h))
wrong_pair h l rest true true eh el e behind = ap (before (octet_answer h l)) (behind e) ∙ before_none (octet_answer h l)

pub wrong_spelled : (ds : List ℕ) → list_all is_ascii_hexdigit ds ≡ false → spelled ds ≡ None
wrong_spelled [] h = absurd (true≢false h)
wrong_spelled (d ∷ []) h = refl
wrong_spelled (h ∷ l ∷ rest) e = wrong_pair h l rest (is_ascii_hexdigit h) (is_ascii_hexdigit l) refl refl e (wrong_spelled rest)

odd_read : (ds : List ℕ) (n : ℕ) → length ds % 2 ≡ 1 → decode_sized ds n ≡ Err OddLength
odd_read ds n odd = grind (arith)

-- all digits, read into room for half as many octets
pub read : (ds : List ℕ) → result_ok (decode_sized ds (length ds / 2)) ≡ spelled ds
read ds =
    elim (cases_lt (length ds % 2) 1) [
      | inl even ↦ ap result_ok (decode_sized-pairs ds (length ds / 2) (omega arith) refl) ∙ pairs_read 0 ds
      | inr odd ↦
          let one : length ds % 2 ≡ 1 = omega arith in
          ap result_ok (odd_read ds (length ds / 2) one) ∙ sym (odd_spelled ds one)
    ]

-- the octets that were laid into the room, if all digits were read
pub given : (r : Result (List ℕ) FromHexError) (t : Result Unit FromHexError) (out : List ℕ)
    → MatchResult r (λ os. (t ≡ Ok tt) × (out ≡ os)) (λ e. t ≡ Err e)
    → cond (is_ok t) (Some out) None ≡ result_ok r
given (Ok os) t out h = ap (λ (r : Result Unit FromHexError). cond (is_ok r) (Some out) None) h.0 ∙ ap Some h.1
given (Err e) t out h = ap (λ (r : Result Unit FromHexError). cond (is_ok r) (Some out) None) h

pub kept : {A B : Type 0} (f : A → B) (b : Bool) (x : A) → option_map f (then_some b x) ≡ cond b (Some (f x)) None
kept f true x = refl
kept f false x = refl
