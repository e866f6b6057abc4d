use Rattle.std.proofs.Common.{arith}
use Rattle.lines.proofs.Packs.{age_set}
use Rattle.lines.proofs.packed.calls.PackedStored.set_age.Goals as goal

pub returns : goal.returns
returns c = λ w. rw (← c.self.view_is) (age_set w c.self.inside.octets _ _ c.args.age (rw c.to_le_bytes.ensures (omega arith)) c.self.invariant.size)
