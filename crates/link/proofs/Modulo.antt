-- Counts that differ by at most 7, told apart by their residues modulo 8.
use Rattle.std.proofs.Common.{◌≡◌, ℕ, ◌+◌, ◌-◌, ◌%◌, ◌≤◌, arith}

-- the distance of two counts from their residues
pub apart : (a v : ℕ) → a ≤ v → v ≤ a + 7 → (v % 8 + (8 - a % 8)) % 8 ≡ v - a
apart a v h j = omega arith

-- counts near each other with one residue are the same
pub same_count : (n r : ℕ) → n % 8 ≡ r % 8 → r ≤ n + 7 → n ≤ r + 7 → n ≡ r
same_count n r e h j = omega arith

-- the residue of the next count
pub next : (n m : ℕ) → m ≡ n % 8 → (m + 1) % 8 ≡ (n + 1) % 8
next n m e = omega arith
