-- Octets cut into records of 72.
use Rattle.std.specs.Prelude.{ℕ, zero, suc, ◌/◌, List, [], ◌∷◌, length, take, drop}
use Rattle.lines.specs.declared.ring.Ring.{Ring}
use Rattle.lines.specs.Ring.{held}

-- the first n records of 72 octets
abbrev pub pieces : ℕ → List ℕ → List (List ℕ)
pieces zero os = []
pieces (suc n) os = take 72 os ∷ pieces n (drop 72 os)

-- octets as records of 72
unfoldable pub cut : List ℕ → List (List ℕ)
cut os = pieces (length os / 72) os

-- the records that a ring of octets holds, oldest first
abbrev pub records : Ring ℕ → List (List ℕ)
records r = cut (held r)
