-- The refusals of a station: their numbers and their words.
use Rattle.std.specs.Prelude.{ℕ, List, codes}
use Rattle.stations.specs.declared.refusal.StationRefusal.{StationRefusal}
use Rattle.stations.specs.declared.refusal.StationRefusal.TheVariants.{Mode, LongBlock, Window, FarBusy, Polling, Nothing, Numbering}

-- the number of each refusal
abbrev pub number_of : StationRefusal → ℕ
number_of Mode = 18
number_of LongBlock = 19
number_of Window = 20
number_of FarBusy = 21
number_of Polling = 22
number_of Nothing = 23
number_of Numbering = 24

-- its word, as octets of ASCII text
abbrev pub word_of : StationRefusal → List ℕ
word_of Mode = codes "mode"
word_of LongBlock = codes "long block"
word_of Window = codes "window"
word_of FarBusy = codes "far busy"
word_of Polling = codes "polling"
word_of Nothing = codes "none"
word_of Numbering = codes "numbering"
