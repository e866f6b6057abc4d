-- The table holds what eight shifts leave: antt computes all of it at once.
use Rattle.std.proofs.Common.{rules}
use Rattle.frames.specs.Fcs.{shift, shifts}
use Rattle.frames.proofs.Tables.{value_at}
use Rattle.frames.proofs.fcs.entry.Goals as goal

pub returns : goal.returns
unfolding shift shifts
returns c = value_at (shifts 8) 256 c.args.low (search rules)
