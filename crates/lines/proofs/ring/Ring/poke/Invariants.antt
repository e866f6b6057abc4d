use Rattle.std.proofs.Common.{◌≡◌}
use lib.Seq.{paste}
use Rattle.lines.specs.Ring.{held, Kept}
use Rattle.lines.proofs.ring.Ring.poke.Given as goal

abbrev pub invariant-loop-j : goal.invariant-loop-j
invariant-loop-j g l = (held l.self ≡ paste (held l.initial.self) l.from l.run l.j) × Kept g.E.Blank.bare l.initial.self l.self
