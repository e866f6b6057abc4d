use Rattle.std.proofs.Common.{◌≡◌, ◌*◌, ◌≤◌}
use Rattle.link.specs.Drain.{total}
use Rattle.link.specs.Views.{model}
use Rattle.link.proofs.Walks.{Walks}
use Rattle.link.proofs.link.Link.drain_open.Given as goal

-- the parts that are left lead to the same end; each counts at most 10,000 calls; the memory behind the line's slots stays
abbrev pub invariant-loop-part : goal.invariant-loop-part
invariant-loop-part g l =
    record {
      walks : Walks l.part-items l.part-index (model g.L.Line.meaning l.initial.self) (model g.L.Line.meaning l.self) l.initial.done l.done;
      few : total l.done ≤ 170000 * l.part-index;
      keeps : g.L.Line.beyond l.self.line ≡ g.L.Line.beyond l.initial.self.line;
    }
