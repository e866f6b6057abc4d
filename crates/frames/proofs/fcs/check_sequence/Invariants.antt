use Rattle.std.proofs.Common.{◌≡◌, drop}
use Rattle.frames.specs.Fcs.{register}
use Rattle.frames.proofs.fcs.check_sequence.Given as goal

-- what is left of the octets takes the register to its end
abbrev pub invariant-loop-octet : goal.invariant-loop-octet
invariant-loop-octet l = register l.register (drop l.octet-index l.octets) ≡ register 0xFFFF l.octets
