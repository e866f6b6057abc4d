use Rattle.std.proofs.Common.{ap, ◌∙◌}
use Rattle.lines.specs.Octets.{cut}
use Rattle.lines.proofs.Cuts.{no_records, no_cut}
use Rattle.lines.proofs.octets.OctetStore.make.Goals as goal

pub invariant_of-result : goal.invariant_of-result
invariant_of-result c =
    let n = no_records _ c.make.ensures.holds in
    record { even = n.0; free = c.make.ensures.blank; neat = n.1 }

pub returns-clause-items : goal.returns-clause-items
returns-clause-items c = ap cut c.make.ensures.holds ∙ no_cut
