-- The refusals of a line: its own, and the frame's passed on; their numbers and their words.
use Rattle.std.specs.Prelude.{ℕ, List, codes}
use Rattle.frames.specs.Refusals as frame
use Rattle.lines.specs.declared.refusal.LineRefusal.{LineRefusal}
use Rattle.lines.specs.declared.refusal.LineRefusal.TheVariants.{Frame, Full, Idle, Damaged, NoEntry, Struck, NoMask, OffFrame, Measure}

-- the number of each refusal; a frame's goes up unchanged
abbrev pub number_of : LineRefusal → ℕ
number_of (Frame e) = frame.number_of e
number_of Full = 8
number_of Idle = 9
number_of Damaged = 10
number_of NoEntry = 11
number_of Struck = 12
number_of NoMask = 13
number_of OffFrame = 14
number_of Measure = 15

-- its word, as octets of ASCII text
abbrev pub word_of : LineRefusal → List ℕ
word_of (Frame e) = frame.word_of e
word_of Full = codes "line full"
word_of Idle = codes "idle"
word_of Damaged = codes "damaged"
word_of NoEntry = codes "no entry"
word_of Struck = codes "struck"
word_of NoMask = codes "no mask"
word_of OffFrame = codes "off frame"
word_of Measure = codes "measure"
