use Rattle.std.proofs.Common.{◌+◌, set, ◌∙◌, ap₂, arith}
use Rattle.std.proofs.lemmas.List.Edits.{paste_more}
use Rattle.lines.specs.Ring.{held}
use Rattle.lines.proofs.Places.{kept_then}
use Rattle.lines.proofs.ring.Ring.poke.Goals as goal

pub loop-j-preserved : goal.loop-j-preserved
loop-j-preserved g c =
    let es = held c.args.self.now in (
      c.replace.ensures.holds ∙ ap₂ (λ y e. set y (c.args.from + c.loop-j.j) e) c.loop-j.invariant.0 c.index-run-j.is
          ∙ paste_more es c.args.from c.args.run.now c.loop-j.j c.index-run-j.result (omega (arith, c.len-len.ensures, c.if-from-len.false, c.if-run-len.false, c.loop-j-test.true)) c.loop-j-test.true,
      kept_then _ _ _ _ c.loop-j.invariant.1 c.replace.ensures.keeps,
    )
