-- Playing a list of calls: it goes on with the history that came before it.
use Rattle.std.proofs.Common.{◌≡◌, List, ◌++◌, sym, ap, ◌∙◌}
use Rattle.link.specs.State.{Model}
use Rattle.link.specs.History.{Call, run}
use Rattle.link.specs.Promise.{Lasting}
use Rattle.link.proofs.Histories.{run_append}
use Rattle.link.proofs.Law.{kept}

pub lasting : (before now : Model) (calls : List Call) → now ≡ run before calls → Lasting before calls now
lasting before now calls e lists t history sound since =
    (e ∙ ap (λ l. run l calls) since ∙ sym (run_append _ history calls), kept lists t sound (history ++ calls))
