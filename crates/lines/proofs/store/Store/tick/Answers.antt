use Rattle.std.proofs.Common.{◌∙◌, arith}
use Rattle.std.proofs.lemmas.List.{length-map}
use Rattle.lines.proofs.Ages.{turn_more}
use Rattle.lines.proofs.store.Store.tick.Goals as goal

pub loop-preserved : goal.loop-preserved
loop-preserved g c = record {
  held = λ w. turn_more c.args.lifetime c.loop.counter _ _ _ (omega (arith, length-map (g.Self.Store.items c.args.self.now) (g.Self.Item.Stored.entry w), c.count-end.ensures, c.loop-test.true)) (c.loop.invariant.held w) (c.turn.ensures.leaves w);
  places = c.turn.ensures.places ∙ c.loop.invariant.places;
  rest = c.turn.ensures.rest ∙ c.loop.invariant.rest;
}
