-- A ring: which slots it has, what it holds, and what every call keeps.
use Rattle.std.specs.Prelude.{◌≡◌, ℕ, ◌+◌, ◌-◌, cond, List, ◌++◌, length, take, drop, nat_lt}
use Rattle.std.specs.List.{AllByRecursion}
use Rattle.lines.specs.declared.ring.Ring.{Ring}

-- the slots of a memory, read round from slot `first`: which slots hold what is left free but for this
unfoldable pub lane : {E : Type 0} → List E → ℕ → ℕ → List E
lane s cap first = drop first (take cap s) ++ take first (take cap s)

-- the slot of place i, where place 0 lies in slot `first` of `cap` slots
abbrev pub slot : ℕ → ℕ → ℕ → ℕ
slot cap first i = cond (nat_lt i (cap - first)) (first + i) (i - (cap - first))

-- how many slots a ring has
abbrev pub size : {E : Type 0} → Ring E → ℕ
size r = r.cap

-- what a ring holds, oldest first
abbrev pub held : {E : Type 0} → Ring E → List E
held r = take r.count (lane r.slots.now r.cap r.first)

-- the slots that hold nothing
abbrev pub free : {E : Type 0} → Ring E → List E
free r = drop r.count (lane r.slots.now r.cap r.first)

-- the memory behind the slots
abbrev pub behind : {E : Type 0} → Ring E → List E
behind r = drop r.cap r.slots.now

-- each slot that holds nothing is blank
abbrev pub Blanked : {E : Type 0} → E → Ring E → Type 0
Blanked b r = AllByRecursion (λ x. x ≡ b) (free r)

-- what each call keeps: how many slots there are, the memory behind them, and that free slots are blank
pub record Kept {E : Type 0} (b : E) (r s : Ring E) : Type 0 where
  pub slots : size s ≡ size r
  pub rest : behind s ≡ behind r
  pub blanks : Blanked b r → Blanked b s

-- a list with another written over it from a place on
abbrev pub laid : {E : Type 0} → List E → ℕ → List E → List E
laid xs from ys = take from xs ++ ys ++ drop (from + length ys) xs
