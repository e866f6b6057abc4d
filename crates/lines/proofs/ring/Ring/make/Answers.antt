use Rattle.std.proofs.Common.{arith}
use Rattle.lines.proofs.Lanes.{lane_blank}
use Rattle.lines.proofs.ring.Ring.make.Goals as goal

pub returns-clause-blank : goal.returns-clause-blank
returns-clause-blank g c =
    lane_blank c.loop-i.slots c.if-n-slots.cap c.blank-blank.result _ (λ k h. c.loop-i.invariant.0 k (omega arith)) c.blank-blank.ensures
