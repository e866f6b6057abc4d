use Rattle.std.proofs.Common.{◌∙◌}
use Rattle.lines.proofs.Cuts.{append_fits, append_holds, append_even, neat_push}
use Rattle.lines.proofs.octets.store.OctetStoreStore.push.Goals as goal

pub invariant_of-self : goal.invariant_of-self
invariant_of-self c =
    let s = c.args.self.now in
    let p = c.push_all.ensures in
    let n = c.new.invariant in
    record {
      even = append_even _ _ _ _ n.size p.holds ∙ s.even;
      free = p.keeps.blanks s.free;
      neat = neat_push _ _ c.new.inside.octets _ (append_holds _ _ _ _ s.even n.size p.holds) s.neat n.zeros;
    }

pub returns-clause-fits : goal.returns-clause-fits
returns-clause-fits c = append_fits _ _ _ _ c.args.self.now.even c.new.invariant.size c.push_all.ensures.fits

pub returns-clause-holds : goal.returns-clause-holds
returns-clause-holds c = rw (← c.new.view_is) (append_holds _ _ _ _ c.args.self.now.even c.new.invariant.size c.push_all.ensures.holds)
