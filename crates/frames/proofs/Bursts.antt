-- A burst within 16 bits of octets that pass the check makes them fail it.
use Rattle.std.proofs.Common.{◌≡◌, ℕ, ◌+◌, ◌-◌, ◌*◌, ◌/◌, ◌%◌, ◌^◌, ◌<◌, ◌≤◌, List, length, sym, ap, ◌∙◌, arith, take-append-drop}
use lib.Bits.{bit_xor, xor_comm, xor_assoc, xor_self, xor_zero_r, xor_shifted}
use Rattle.frames.specs.Fcs.{shift, shifts, register, check_octets, before, behind, Checked}
use Rattle.frames.specs.Bits.{flips}
use Rattle.frames.proofs.Linear.{shifts_xor, shifts_add, shifts_pow, shifts_zero}
use Rattle.frames.proofs.Runs.{number, register_number, register_append, number_flips, length_flips}

-- the register after a checked frame, check octets and all
pub good : (os : List ℕ) → Checked os → register 0xFFFF os ≡ 0xF0B8
unfolding shift shifts
good os e =
    let r : ℕ = register 0xFFFF (before os) in
    let f : ℕ = bit_xor r 0xFFFF in
    let two : bit_xor (f % 256) (f / 256 * 256) ≡ f =
    xor_comm (f % 256) (f / 256 * 256) ∙ xor_shifted (f / 256) 8 (f % 256) (omega arith) ∙ whole f in
    ap (register 0xFFFF) (sym (take-append-drop (length os - 2) os))
    ∙ register_append 0xFFFF (before os) (behind os)
    ∙ ap (register r) e
    ∙ register_number r (check_octets (before os))
    ∙ ap (shifts 16)
    (ap (bit_xor r) (ap (λ x. bit_xor (f % 256) (x * 256)) (xor_zero_r (f / 256)) ∙ two)
    ∙ sym (xor_assoc r r 0xFFFF) ∙ ap (λ x. bit_xor x 0xFFFF) (xor_self r))
  where
    whole : (n : ℕ) → n / 256 * 256 + n % 256 ≡ n
    whole n = omega arith

-- what is added to a checked frame, and leaves it checked, leaves no trace in the register
pub trace : (os ps : List ℕ) (d : ℕ) → length ps ≡ length os → number ps ≡ bit_xor (number os) d → Checked os → Checked ps
    → shifts (8 * length os) d ≡ 0
trace os ps d l e p q =
    let n : ℕ = 8 * length os in
    let a : ℕ = shifts n (bit_xor 0xFFFF (number os)) in
    let was : a ≡ 0xF0B8 = sym (register_number 0xFFFF os) ∙ good os p in
    let is : bit_xor a (shifts n d) ≡ 0xF0B8 =
    sym (shifts_xor n (bit_xor 0xFFFF (number os)) d)
    ∙ ap (shifts n) (xor_assoc 0xFFFF (number os) d ∙ ap (bit_xor 0xFFFF) (sym e))
    ∙ ap (λ k. shifts (8 * k) (bit_xor 0xFFFF (number ps))) (sym l)
    ∙ sym (register_number 0xFFFF ps) ∙ good ps q in
    ap (λ x. bit_xor x (shifts n d)) (sym (xor_self a)) ∙ xor_assoc a a (shifts n d) ∙ ap (bit_xor a) is
    ∙ ap (λ x. bit_xor x 0xF0B8) was

pub burst_seen : (os : List ℕ) (start mask : ℕ) → Checked os → 0 < mask → mask < 2 ^ 16 → start + 16 ≤ 8 * length os
    → Checked (flips 16 start mask os) → ⊥
burst_seen os start mask p low high fits q =
    let n : ℕ = 8 * length os in
    let t : shifts n (mask * 2 ^ start) ≡ 0 =
    trace os (flips 16 start mask os) (mask * 2 ^ start) (length_flips 16 start mask os) (number_flips 16 start mask os high fits) p q in
    let s : start + (8 * length os - start) ≡ 8 * length os = omega arith in
    let u : shifts (n - start) mask ≡ 0 =
    ap (shifts (n - start)) (sym (shifts_pow start mask)) ∙ sym (shifts_add start (n - start) (mask * 2 ^ start))
    ∙ ap (λ k. shifts k (mask * 2 ^ start)) s ∙ t in
    let z : mask ≡ 0 = shifts_zero (n - start) mask high u in
    omega arith
