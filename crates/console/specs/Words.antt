-- A line's words: runs of octets between ASCII white space.
use Rattle.std.specs.Prelude.{ℕ, Bool, true, not, ◌&&◌, ◌||◌, List, [], ◌∷◌, take, drop, ◌==◌, nat_le}
use Rattle.std.specs.List.{prefix_len}

-- white space: tab, line feed, VT, FF, CR and the space
abbrev pub white : ℕ → Bool
white o = o == 32 || (nat_le 9 o && nat_le o 13)

-- the octets from the first word on
abbrev pub trimmed : List ℕ → List ℕ
trimmed os = drop (prefix_len white os) os

-- the octets at the front that are no white space, and what stands behind them
abbrev pub solid : List ℕ → List ℕ
solid os = take (prefix_len (λ o. not (white o)) os) os

abbrev pub behind : List ℕ → List ℕ
behind os = drop (prefix_len (λ o. not (white o)) os) os

-- the first word, none where all is white space, and what stands behind it
abbrev pub first_word : List ℕ → List ℕ
first_word os = solid (trimmed os)

abbrev pub after_word : List ℕ → List ℕ
after_word os = behind (trimmed os)

-- a line whose first word is none or begins with '#' asks for nothing
abbrev pub idle_word : List ℕ → Bool
idle_word [] = true
idle_word (o ∷ os) = o == 35

abbrev pub asks_nothing : List ℕ → Bool
asks_nothing os = idle_word (first_word os)
