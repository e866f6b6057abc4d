use Rattle.std.proofs.Common.{map, sym, ◌∙◌, arith}
use Rattle.std.proofs.lemmas.List.{at_drop_all}
use Rattle.link.specs.History.{run}
use Rattle.link.specs.Plays.{meant}
use Rattle.link.specs.Views.{model}
use Rattle.link.proofs.CallLists.{lasting}
use Rattle.link.proofs.link.Link.play.Goals as goal

pub returns-clause-law : goal.returns-clause-law
returns-clause-law g c =
    let left = at_drop_all (λ cs. run (model g.L.Line.meaning c.loop-call.self) (map meant cs)) c.args.calls.now c.loop-call.call-index (omega arith) in
    lasting _ _ _ (sym left ∙ c.loop-call.invariant.0)
