use Rattle.std.proofs.Common.{map}
use Rattle.frames.specs.declared.way.Way.TheVariants.{One, Two}
use Rattle.lines.proofs.Stores.{ticked}
use Rattle.lines.proofs.two_way.calls.TwoWayLine.tick.Goals as goal

pub returns-clause-leaves : goal.returns-clause-leaves
returns-clause-leaves g c =
    let t = c.args.self.now in
    ticked _ (record {
      one = map (g.A.Item.Stored.entry One) (g.A.Store.items t.one);
      two = map (g.B.Item.Stored.entry Two) (g.B.Store.items t.two);
      capacity = g.A.Store.places t.one;
      lifetime = t.lifetime;
    }) _ _ _ _ (c.tick.ensures.leaves One) (c.tick-2.ensures.leaves Two) c.tick.ensures.places c.tick-2.ensures.places
