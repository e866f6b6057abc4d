-- The seven refusals of a frame: their numbers, their words, and how one goes before what follows it.
use Rattle.std.specs.Prelude.{ℕ, Bool, cond, List, Err, codes, Result}
use Rattle.frames.specs.declared.refusal.FrameRefusal.{FrameRefusal}
use Rattle.frames.specs.declared.refusal.FrameRefusal.TheVariants.{Short, Long, Check, Address, Control, Stray, NoSpace}

-- the number of each refusal
abbrev pub number_of : FrameRefusal → ℕ
number_of Short = 1
number_of Long = 2
number_of Check = 3
number_of Address = 4
number_of Control = 5
number_of Stray = 6
number_of NoSpace = 7

-- its word, as octets of ASCII text
abbrev pub word_of : FrameRefusal → List ℕ
word_of Short = codes "short"
word_of Long = codes "long"
word_of Check = codes "check"
word_of Address = codes "address"
word_of Control = codes "control"
word_of Stray = codes "stray"
word_of NoSpace = codes "no space"

-- where the test holds the refusal is given, otherwise what follows
abbrev pub refuse : {A : Type 0} → Bool → FrameRefusal → Result A FrameRefusal → Result A FrameRefusal
refuse b e x = cond b (Err e) x
