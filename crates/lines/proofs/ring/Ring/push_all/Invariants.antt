use Rattle.std.proofs.Common.{◌≡◌, ◌++◌, take}
use Rattle.lines.specs.Ring.{held, Kept}
use Rattle.lines.proofs.ring.Ring.push_all.Given as goal

abbrev pub invariant-loop-e : goal.invariant-loop-e
invariant-loop-e g l = record {
  held : held l.self ≡ held l.initial.self ++ take l.e-index l.run;
  kept : Kept g.E.Blank.bare l.initial.self l.self;
}
