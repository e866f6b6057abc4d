use Rattle.std.proofs.Common.{ap, ◌∙◌, arith, rules, false-eqb}
use Rattle.std.proofs.lemmas.Result.{IfOk-weaker}
use Rattle.console.specs.Hex.{octets_answer}
use Rattle.console.proofs.Spelling.{written}
use Rattle.console.proofs.Texts.{text_back, text_some}
use Rattle.console.proofs.octets.text.Goals as goal

pub returns-else-is_empty : goal.returns-else-is_empty
returns-else-is_empty c =
    let os = c.args.octets.now in
    let e = written os (λ k. search rules) ∙ text_some os (omega (arith, false-eqb _ 0 c.if-is_empty.ensures)) in
    record {
      shows = IfOk-weaker c.encode.result _ _ (λ t h. h ∙ e) c.encode.ensures;
      reads_back = IfOk-weaker c.encode.result _ _ (λ t h. ap octets_answer (h ∙ e) ∙ text_back os (λ k. search rules)) c.encode.ensures;
    }
