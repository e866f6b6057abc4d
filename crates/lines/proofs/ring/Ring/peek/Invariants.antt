use Rattle.std.proofs.Common.{◌≡◌, ◌++◌, take, drop}
use Rattle.lines.specs.Ring.{held}
use Rattle.lines.proofs.ring.Ring.peek.Given as goal

abbrev pub invariant-loop-j : goal.invariant-loop-j
invariant-loop-j g l = l.out ≡ take l.j (drop l.from (held l.self)) ++ drop l.j l.initial.out
