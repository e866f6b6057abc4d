use Rattle.std.proofs.Common.{◌*◌, Some, sym, refl, ap, ◌∙◌, arith}
use Rattle.std.proofs.lemmas.Bool.{le-leb, true≢false}
use Rattle.lines.specs.Ring.{held}
use Rattle.lines.proofs.Cuts.{cut_at, cut_none, peeked, neat_at}
use Rattle.lines.proofs.octets.store.OctetStoreStore.get.Goals as goal
use Rattle.lines.proofs.octets.store.OctetStoreStore.get.Goals.{else-place-len-via-then-place-len+else-peek, else-place-len-via-else-place-len}

pub returns-then-peek : goal.returns-then-peek
returns-then-peek c =
    let es = held c.args.self.now.ring in
    ap Some (peeked es _ _ (72 * c.args.place) 72 _ refl c.if-peek.true c.peek.ensures.gives) ∙ cut_at es c.args.place (omega (arith, c.len.ensures, c.if-place-len.true))

pub invariant_of-result : goal.invariant_of-result
invariant_of-result c =
    let es = held c.args.self.now.ring in
    let e = peeked es _ _ (72 * c.args.place) 72 _ refl c.if-peek.true c.peek.ensures.gives in
    record {
      size = omega (arith, c.peek.auto.out);
      zeros = neat_at _ c.args.place _ (ap Some e ∙ cut_at es c.args.place (omega (arith, c.len.ensures, c.if-place-len.true))) c.args.self.now.neat;
    }

pub returns-else-place-len : goal.returns-else-place-len
returns-else-place-len c =
    let es = held c.args.self.now.ring in
    elim c.else-place-len.branch [
      | else-place-len-via-then-place-len+else-peek w ↦
          absurd (true≢false (sym (le-leb _ _ (omega (arith, c.len.ensures, w.if-place-len.true))) ∙ sym w.peek.ensures.fits ∙ w.if-peek.false))
      | else-place-len-via-else-place-len w ↦ cut_none es c.args.place (omega (arith, c.len.ensures, w.if-place-len.false))
    ]
