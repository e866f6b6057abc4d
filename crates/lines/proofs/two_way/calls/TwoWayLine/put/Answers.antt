use Rattle.std.proofs.Common.{sym, ◌∙◌}
use Rattle.frames.specs.Parts.{given}
use Rattle.lines.proofs.Stores.{by_false, dead_put, dead_put_left, put_one, put_two, put_one_left, put_two_left}
use Rattle.lines.proofs.two_way.calls.TwoWayLine.put.Goals as goal

pub returns-then-not-sound-clause-answers : goal.returns-then-not-sound-clause-answers
returns-then-not-sound-clause-answers g c =
    dead_put _ c.args.way (given c.args.frame) _ (by_false _ _ (sym c.sound.ensures ∙ c.if-not-sound.true)) (sym c.in_ok-admit.was ∙ c.admit.ensures)

pub returns-then-not-sound-clause-leaves : goal.returns-then-not-sound-clause-leaves
returns-then-not-sound-clause-leaves g c =
    dead_put_left _ c.args.way (given c.args.frame) _ (by_false _ _ (sym c.sound.ensures ∙ c.if-not-sound.true)) (sym c.in_ok-admit.was ∙ c.admit.ensures)

pub returns-in-One-clause-answers : goal.returns-in-One-clause-answers
returns-in-One-clause-answers g c =
    put_one _ _ _ _ _ _ _ c.args.way (sym c.sound.ensures ∙ c.if-not-sound.false) (given c.args.frame) _ c.in-One.is c.put.ensures.answers

pub returns-in-One-clause-leaves : goal.returns-in-One-clause-leaves
returns-in-One-clause-leaves g c =
    put_one_left _ _ _ _ _ _ _ c.args.way (sym c.sound.ensures ∙ c.if-not-sound.false) (given c.args.frame) _ _ _ c.in-One.is c.put.ensures.places c.put.ensures.answers c.put.ensures.leaves

pub returns-in-Two-clause-answers : goal.returns-in-Two-clause-answers
returns-in-Two-clause-answers g c =
    put_two _ _ _ _ _ _ _ c.args.way (sym c.sound.ensures ∙ c.if-not-sound.false) (given c.args.frame) _ c.in-Two.is c.put-in-Two.ensures.answers

pub returns-in-Two-clause-leaves : goal.returns-in-Two-clause-leaves
returns-in-Two-clause-leaves g c =
    put_two_left _ _ _ _ _ _ _ c.args.way (sym c.sound.ensures ∙ c.if-not-sound.false) (given c.args.frame) _ _ _ c.in-Two.is c.put-in-Two.ensures.places c.put-in-Two.ensures.answers c.put-in-Two.ensures.leaves
