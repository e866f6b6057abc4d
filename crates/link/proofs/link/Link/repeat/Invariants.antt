use Rattle.std.proofs.Common.{◌≡◌, ◌+◌, ◌*◌, ◌≤◌, replicate}
use Rattle.link.specs.History.{run}
use Rattle.link.specs.Drain.{counted_all, total}
use Rattle.link.specs.Plays.{meant}
use Rattle.link.specs.Views.{model}
use Rattle.link.proofs.link.Link.repeat.Given as goal

-- what was done and counted so far; the memory behind the line's slots stays
abbrev pub invariant-loop-i : goal.invariant-loop-i
invariant-loop-i g l =
    let from = model g.L.Line.meaning l.initial.self in
    record {
      leads : model g.L.Line.meaning l.self ≡ run from (replicate l._i (meant l.call));
      counts : l.done ≡ counted_all from (replicate l._i (meant l.call)) l.initial.done;
      few : total l.done ≤ total l.initial.done + 17 * l._i;
      keeps : g.L.Line.beyond l.self.line ≡ g.L.Line.beyond l.initial.self.line;
    }
