use Rattle.std.proofs.Common.{◌≡◌, not, ◌∙◌, ap, take, drop, rules, tests}
use Rattle.std.specs.List.{prefix_len}
use Rattle.std.proofs.lemmas.Iterator.{YieldsList-from_slice}
use Rattle.std.proofs.lemmas.Iterator.Consumers.{count_from_yields_List}
use Rattle.std.proofs.lemmas.Iterator.Search.{YieldsList-from_take_while}
use Rattle.std.proofs.lemmas.List.Folds.{length-prefix_len}
use Rattle.console.specs.Words.{white, trimmed, solid, behind}
use Rattle.console.proofs.words.split_word.Goals as goal

pub returns : goal.returns
returns c =
    let front : c.count-white.result ≡ prefix_len white c.args.text.now =
    count_from_yields_List c.take_while.result _ c.count-white.ensures.ran (YieldsList-from_take_while _ white (YieldsList-from_slice c.args.text.now cc) c.take_while.ensures.closure c.take_while.ensures.done (λ x b q k. search (rules, tests)))
    ∙ length-prefix_len white c.args.text.now in
    let from : c.split_at.result.1.now ≡ trimmed c.args.text.now = c.split_at.ensures.back ∙ ap (λ n. drop n c.args.text.now) front in
    let until : c.count-solid.result ≡ prefix_len (λ o. not (white o)) c.split_at.result.1.now =
    count_from_yields_List c.take_while-2.result _ c.count-solid.ensures.ran (YieldsList-from_take_while _ (λ o. not (white o)) (YieldsList-from_slice c.split_at.result.1.now cc) c.take_while-2.ensures.closure c.take_while-2.ensures.done (λ x b q k. search (rules, tests)))
    ∙ length-prefix_len (λ o. not (white o)) c.split_at.result.1.now in
    record {
      word = c.split_at-2.ensures.front ∙ ap (λ n. take n c.split_at.result.1.now) until ∙ ap solid from;
      rest = c.split_at-2.ensures.back ∙ ap (λ n. drop n c.split_at.result.1.now) until ∙ ap behind from;
    }
