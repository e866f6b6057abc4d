use Rattle.std.proofs.Common.{drop, set, sym, ◌∙◌, ap₂, arith}
use Rattle.std.proofs.lemmas.List.{get_or-drop, length-drop}
use Rattle.lines.specs.Ring.{held}
use Rattle.lines.proofs.Runs.{copy_more}
use Rattle.lines.proofs.ring.Ring.peek.Goals as goal

pub loop-j-preserved : goal.loop-j-preserved
loop-j-preserved g c =
    let es = held c.args.self.now in
    ap₂ (λ o e. set o c.loop-j.j e) c.loop-j.invariant (c.get_or.ensures ∙ sym (get_or-drop c.args.from es c.loop-j.j c.blank-blank.result))
    ∙ copy_more (drop c.args.from es) c.args.out.now c.loop-j.j c.blank-blank.result (simp length-drop (omega (arith, c.len-len.ensures, c.if-from-len.false, c.if-out-len.false, c.loop-j-test.true))) (omega arith)
