use Rattle.std.proofs.Common.{◌/◌, ap, ◌∙◌}
use lib.Bits.{bit_xor}
use Rattle.frames.proofs.Tables.{by_table}
use Rattle.frames.proofs.fcs.step.Goals as goal

pub returns : goal.returns
returns c = ap (bit_xor (c.args.register / 256)) c.entry.ensures ∙ by_table c.args.register c.args.octet
