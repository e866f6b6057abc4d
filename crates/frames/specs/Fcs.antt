-- The check sequence: the 16-bit FCS of RFC 1662, an octet at a time and in its bit-serial wording.
use Rattle.std.specs.Prelude.{◌≡◌, ℕ, zero, suc, ◌-◌, ◌*◌, ◌/◌, ◌%◌, Bool, false, cond, ◌&&◌, List, [], ◌∷◌, ◌++◌, length, take, drop, ◌==◌, bit_xor, nat_lt, slice_index}

-- the register moves on by one bit: to the right, and where a 1 falls out the generator 0x8408 is added
unfoldable pub shift : ℕ → ℕ
shift x = bit_xor (x / 2) (x % 2 * 0x8408)

-- and by n bits
unfoldable pub shifts : ℕ → ℕ → ℕ
shifts zero x = x
shifts (suc n) x = shifts n (shift x)

-- an octet is added to the register's low bits, and the register moves on by eight
unfoldable pub taken : ℕ → ℕ → ℕ
taken r o = shifts 8 (bit_xor r o)

-- the register after a run of octets
abbrev pub register : ℕ → List ℕ → ℕ
register r [] = r
register r (o ∷ os) = register (taken r o) os

-- the check sequence: the register from all ones, complemented
abbrev pub fcs : List ℕ → ℕ
fcs os = bit_xor (register 0xFFFF os) 0xFFFF

-- ---- the bit-serial wording

-- the n lowest bits of a number, the lowest first
unfoldable pub low_bits : ℕ → ℕ → List ℕ
low_bits zero o = []
low_bits (suc n) o = o % 2 ∷ low_bits n (o / 2)

-- the bits of a run of octets, in the order in which they go out
abbrev pub bits : List ℕ → List ℕ
bits [] = []
bits (o ∷ os) = low_bits 8 o ++ bits os

-- each bit is added to the register's lowest, and the register moves on by one
abbrev pub serial : ℕ → List ℕ → ℕ
serial r [] = r
serial r (b ∷ bs) = serial (shift (bit_xor r b)) bs

-- the check sequence, a bit at a time
abbrev pub serial_fcs : List ℕ → ℕ
serial_fcs os = bit_xor (serial 0xFFFF (bits os)) 0xFFFF

-- ---- the check octets

-- the two check octets of a run, the low one first
abbrev pub check_octets : List ℕ → List ℕ
check_octets os = fcs os % 256 ∷ fcs os / 256 ∷ []

-- the octets before the last two, and those two
abbrev pub before : List ℕ → List ℕ
before os = take (length os - 2) os

abbrev pub behind : List ℕ → List ℕ
behind os = drop (length os - 2) os

-- the last two octets are the check octets of those before
abbrev pub Checked : List ℕ → Type 0
Checked os = behind os ≡ check_octets (before os)

-- the same as a test
abbrev pub checks : List ℕ → Bool
checks os =
    cond (nat_lt (length os) 2) false
    (fcs (before os) % 256 == slice_index os (length os - 2) && fcs (before os) / 256 == slice_index os (length os - 1))
