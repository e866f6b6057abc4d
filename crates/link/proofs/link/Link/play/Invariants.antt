use Rattle.std.proofs.Common.{◌≡◌, map, drop}
use Rattle.link.specs.History.{run}
use Rattle.link.specs.Plays.{meant}
use Rattle.link.specs.Views.{model}
use Rattle.link.proofs.link.Link.play.Given as goal

-- the calls that are left take the link to its end; the memory behind the line's slots stays
abbrev pub invariant-loop-call : goal.invariant-loop-call
invariant-loop-call g l =
    (run (model g.L.Line.meaning l.self) (map meant (drop l.call-index l.calls))
    ≡ run (model g.L.Line.meaning l.initial.self) (map meant l.calls))
    × (g.L.Line.beyond l.self.line ≡ g.L.Line.beyond l.initial.self.line)
