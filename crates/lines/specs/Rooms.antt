-- A ring holds no more than it has slots, and a ring of whole records no more records than it has room for.
use Rattle.std.specs.Prelude.{◌≡◌, ℕ, zero, suc, ◌/◌, ◌≤◌, List, length, drop, refl}
use Rattle.std.proofs.Common.{ap, arith}
use Rattle.std.proofs.lemmas.List.{length-take}
use Rattle.lines.specs.declared.ring.Ring.{Ring}
use Rattle.lines.specs.Ring.{lane, size, held}
use Rattle.lines.specs.Octets.{pieces, cut, records}

pub held_fit : {E : Type 0} (r : Ring E) → length (held r) ≤ size r
held_fit r = let h = r.holds in omega (arith, length-take r.count (lane r.slots.now r.cap r.first))

pieces_length : (n : ℕ) (xs : List ℕ) → length (pieces n xs) ≡ n
pieces_length zero xs = refl
pieces_length (suc n) xs = ap suc (pieces_length n (drop 72 xs))

pub cut_length : (xs : List ℕ) → length (cut xs) ≡ length xs / 72
unfolding cut
cut_length xs = pieces_length (length xs / 72) xs

pub records_fit : (r : Ring ℕ) → length (records r) ≤ size r / 72
records_fit r = omega (arith, cut_length (held r), held_fit r)
