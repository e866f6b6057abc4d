-- Bits of a run of octets turned over.
use Rattle.std.specs.Prelude.{ℕ, zero, suc, ◌+◌, ◌*◌, ◌/◌, ◌%◌, ◌^◌, Bool, cond, not, ◌&&◌, List, length, ◌==◌, bit_xor, nat_le, slice_index, slice_set}

-- one bit turned over: bit b of the run is bit b mod 8 of octet b div 8
abbrev pub flip_bit : ℕ → List ℕ → List ℕ
flip_bit b os = slice_set os (b / 8) (bit_xor (slice_index os (b / 8)) (2 ^ (b % 8)))

-- bit start + i turned over for each of the n low bits i of the mask that is 1
unfoldable pub flips : ℕ → ℕ → ℕ → List ℕ → List ℕ
flips zero start mask os = os
flips (suc n) start mask os = flips n (start + 1) (mask / 2) (cond (mask % 2 == 1) (flip_bit start os) os)

-- a burst is struck where the mask is not 0 and its sixteen bits lie within the octets
abbrev pub strike_answer : ℕ → ℕ → ℕ → Bool
strike_answer len start mask = not (mask == 0) && nat_le (start + 16) (8 * len)

abbrev pub strike_leaves : ℕ → ℕ → List ℕ → List ℕ
strike_leaves start mask os = cond (strike_answer (length os) start mask) (flips 16 start mask os) os
