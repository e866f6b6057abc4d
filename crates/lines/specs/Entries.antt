-- What a line means: two lists of entries, one a way, oldest first, and its two measures.
use Rattle.std.specs.Prelude.{ℕ, zero, suc, ◌≤◌, List, [], ◌∷◌, length, Some, None, Option}
use Rattle.frames.specs.declared.way.Way.{Way}
use Rattle.frames.specs.declared.way.Way.TheVariants.{One, Two}
use Rattle.frames.specs.Parts.{Parts}

-- an age in ticks, and a frame or the word struck; what a struck entry held before is no part of it
pub data Entry : Type 0 where
  struck : ℕ → Entry
  frame : ℕ → Parts → Entry

-- the entries of way 1 and of way 2, how many a way can hold (K), and for how many ticks it holds one (D)
pub record Lists : Type 0 where
  pub one : List Entry
  pub two : List Entry
  pub capacity : ℕ
  pub lifetime : ℕ

-- the entries of a way
abbrev pub on : Way → Lists → List Entry
on One l = l.one
on Two l = l.two

-- other entries on a way; the other way and the measures stay
abbrev pub with_way : Way → List Entry → Lists → Lists
with_way One es l = record { one = es; two = l.two; capacity = l.capacity; lifetime = l.lifetime }
with_way Two es l = record { one = l.one; two = es; capacity = l.capacity; lifetime = l.lifetime }

-- what stands at a place of a list
abbrev pub at : {E : Type 0} → List E → ℕ → Option E
at [] i = None
at (x ∷ xs) zero = Some x
at (x ∷ xs) (suc i) = at xs i

-- the bounds of every line: K is at most 64, D is 1 to 1,000, and no way holds more than K entries
pub record Bounded (l : Lists) : Type 0 where
  pub capacity : l.capacity ≤ 64
  pub least : 1 ≤ l.lifetime
  pub most : l.lifetime ≤ 1000
  pub one : length l.one ≤ l.capacity
  pub two : length l.two ≤ l.capacity
