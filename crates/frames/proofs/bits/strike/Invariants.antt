use Rattle.std.proofs.Common.{◌≡◌, ◌+◌, ◌-◌, ◌*◌}
use Rattle.frames.specs.Bits.{flips}
use Rattle.frames.proofs.bits.strike.Given as goal

-- what is left of the mask takes the octets to their end
abbrev pub invariant-loop-i : goal.invariant-loop-i
invariant-loop-i l =
    flips (l.bit + 16 - l.i) (l.first * 8 + l.i) l.rest l.octets ≡ flips 16 l.start l.mask l.initial.octets
