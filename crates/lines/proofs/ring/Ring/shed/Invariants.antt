use Rattle.std.proofs.Common.{◌≡◌, drop}
use Rattle.lines.specs.Ring.{held, Kept}
use Rattle.lines.proofs.ring.Ring.shed.Given as goal

abbrev pub invariant-loop : goal.invariant-loop
invariant-loop g l = record {
  held : held l.self ≡ drop l.counter (held l.initial.self);
  kept : Kept g.E.Blank.bare l.initial.self l.self;
}
