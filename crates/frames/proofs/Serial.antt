-- The check sequence an octet at a time is the check sequence a bit at a time.
use Rattle.std.proofs.Common.{◌≡◌, ℕ, zero, suc, ◌+◌, ◌*◌, ◌/◌, ◌%◌, ◌^◌, ◌<◌, List, [], ◌∷◌, ◌++◌, get_or, sym, refl, ap, ◌∙◌, pow-suc, arith}
use lib.Bits.{bit_xor, xor_comm, xor_assoc, xor_zero_r, xor_shifted}
use Rattle.frames.specs.Fcs.{shift, shifts, taken, register, fcs, low_bits, bits, serial, serial_fcs}
use Rattle.frames.proofs.Linear.{shift_xor, shift_double}

halved : (m : ℕ) → m / 2 * 2 + m % 2 ≡ m
halved m = omega arith

-- the lowest bit goes in first, and the others follow one place lower
one_bit : (r o : ℕ) → bit_xor (shift (bit_xor r (o % 2))) (o / 2) ≡ shift (bit_xor r o)
one_bit r o =
    sym
    (ap shift
    (ap (bit_xor r) (sym (halved o) ∙ sym (xor_shifted (o / 2) 1 (o % 2) (omega arith)) ∙ xor_comm (o / 2 * 2) (o % 2))
    ∙ sym (xor_assoc r (o % 2) (o / 2 * 2)))
    ∙ shift_xor (bit_xor r (o % 2)) (o / 2 * 2) ∙ ap (bit_xor (shift (bit_xor r (o % 2)))) (shift_double (o / 2)))

low_serial : (n r o : ℕ) (bs : List ℕ) → o < 2 ^ n → serial r (low_bits n o ++ bs) ≡ serial (shifts n (bit_xor r o)) bs
unfolding shifts low_bits
low_serial zero r o bs h =
    let z : o ≡ 0 = omega arith in ap (λ x. serial x bs) (sym (xor_zero_r r) ∙ ap (bit_xor r) (sym z))
low_serial (suc n) r o bs h =
    let q : 2 ^ suc n ≡ 2 ^ n * 2 = pow-suc 2 n in
    low_serial n (shift (bit_xor r (o % 2))) (o / 2) bs (omega arith) ∙ ap (λ x. serial (shifts n x) bs) (one_bit r o)

register_serial : (r : ℕ) (os : List ℕ) → ((k : ℕ) → get_or os k 0 < 256) → register r os ≡ serial r (bits os)
unfolding taken
register_serial r [] h = refl
register_serial r (o ∷ os) h = register_serial (taken r o) os (λ k. h (suc k)) ∙ sym (low_serial 8 r o (bits os) (h 0))

pub fcs_serial : (os : List ℕ) → ((k : ℕ) → get_or os k 0 < 256) → fcs os ≡ serial_fcs os
fcs_serial os h = ap (λ x. bit_xor x 0xFFFF) (register_serial 0xFFFF os h)
