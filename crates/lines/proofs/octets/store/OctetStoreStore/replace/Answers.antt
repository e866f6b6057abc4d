use Rattle.std.proofs.Common.{sym, subst, ◌∙◌, arith}
use Rattle.std.specs.List.{AllByRecursion}
use Rattle.std.proofs.ByRecursion.{All-set}
use Rattle.lines.specs.Octets.{cut}
use Rattle.lines.specs.Packed.{Neat}
use Rattle.lines.specs.Ring.{held}
use Rattle.lines.proofs.Cuts.{poked, cut_set_past}
use Rattle.lines.proofs.octets.store.OctetStoreStore.replace.Goals as goal

pub invariant_of-self : goal.invariant_of-self
invariant_of-self c =
    let s = c.args.self.now in
    let n = c.new.invariant in
    let w = c.poke-whole.ensures in
    let p = poked (held s.ring) _ c.new.inside.octets c.args.place _ (omega (arith, c.len.ensures, c.if-place-len.true)) n.size w.fits w.holds in
    record {
      even = p.1 ∙ s.even;
      free = w.keeps.blanks s.free;
      neat = subst (λ xs. AllByRecursion Neat xs) (sym p.0) (All-set Neat (cut (held s.ring)) c.args.place c.new.inside.octets n.zeros s.neat);
    }

pub returns-then-place-len-clause-holds : goal.returns-then-place-len-clause-holds
returns-then-place-len-clause-holds c =
    let w = c.poke-whole.ensures in
    rw (← c.new.view_is) (poked (held c.args.self.now.ring) _ c.new.inside.octets c.args.place _ (omega (arith, c.len.ensures, c.if-place-len.true)) c.new.invariant.size w.fits w.holds).0

pub returns-else-place-len-clause-holds : goal.returns-else-place-len-clause-holds
returns-else-place-len-clause-holds c =
    cut_set_past (held c.args.self.now.ring) c.args.new c.args.place (omega (arith, c.len.ensures, c.if-place-len.false))
