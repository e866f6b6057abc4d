use Rattle.std.proofs.Common.{sym, ap, ◌∙◌, subst}
use Rattle.std.specs.List.{AllByRecursion}
use Rattle.std.proofs.ByRecursion.{All-drop}
use Rattle.lines.specs.Octets.{cut}
use Rattle.lines.specs.Packed.{Neat}
use Rattle.lines.specs.Ring.{held}
use Rattle.lines.proofs.Cuts.{cut_shed, first_whole, shed_even}
use Rattle.lines.proofs.octets.store.OctetStoreStore.pop.Goals as goal

pub invariant_of-self : goal.invariant_of-self
invariant_of-self c =
    let s = c.args.self.now in
    let p = c.shed.ensures in
    record {
      even = shed_even _ _ (first_whole _ c.in_ok-oldest.oldest (sym c.in_ok-oldest.was ∙ c.get.ensures)) p.holds ∙ s.even;
      free = p.keeps.blanks s.free;
      neat = subst (λ xs. AllByRecursion Neat xs) (sym (ap cut p.holds ∙ cut_shed (held s.ring))) (All-drop Neat 1 (cut (held s.ring)) s.neat);
    }

pub returns-clause-holds : goal.returns-clause-holds
returns-clause-holds c = ap cut c.shed.ensures.holds ∙ cut_shed (held c.args.self.now.ring)
