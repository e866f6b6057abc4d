-- The refusals of a link: its own, the line's and the station's passed on; their numbers and their words.
use Rattle.std.specs.Prelude.{ℕ, List, codes}
use Rattle.lines.specs.Refusals as line
use Rattle.stations.specs.Refusals as station
use Rattle.link.specs.declared.refusal.LinkRefusal.{LinkRefusal}
use Rattle.link.specs.declared.refusal.LinkRefusal.TheVariants.{Line, Timer, InUse, Station}

-- the number of each refusal; those of the layers below go up unchanged
abbrev pub number_of : LinkRefusal → ℕ
number_of (Line e) = line.number_of e
number_of Timer = 16
number_of InUse = 17
number_of (Station e) = station.number_of e

-- its word, as octets of ASCII text
abbrev pub word_of : LinkRefusal → List ℕ
word_of (Line e) = line.word_of e
word_of Timer = codes "timer"
word_of InUse = codes "in use"
word_of (Station e) = station.word_of e
