-- Frames of an answer, few enough that their counts never wrap.
use Rattle.std.specs.Prelude.{Ok, Err, Result}
use Rattle.stations.specs.declared.answer.Taken.{Taken}
use Rattle.stations.specs.Answers.{FewFrames}
use Rattle.link.specs.declared.refusal.LinkRefusal.{LinkRefusal}

-- a take puts and loses at most 8 frames
abbrev pub FewAnswered : Result Taken LinkRefusal → Type 0
FewAnswered (Ok a) = FewFrames a.counts
FewAnswered (Err e) = Unit {0}
