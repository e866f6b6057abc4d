use Rattle.std.proofs.Common.{◌≡◌, ◌++◌, map, take, drop}
use Rattle.frames.specs.declared.way.Way.{Way}
use Rattle.lines.specs.Line.{older}
use Rattle.lines.proofs.store.Store.tick.Given as goal

abbrev pub invariant-loop : goal.invariant-loop
invariant-loop g l = record {
  held : (w : Way) → map (g.Self.Item.Stored.entry w) (g.Self.Store.items l.self) ≡ drop l.counter (map (g.Self.Item.Stored.entry w) (g.Self.Store.items l.initial.self)) ++ older l.lifetime (take l.counter (map (g.Self.Item.Stored.entry w) (g.Self.Store.items l.initial.self)));
  places : g.Self.Store.places l.self ≡ g.Self.Store.places l.initial.self;
  rest : g.Self.Store.rest l.self ≡ g.Self.Store.rest l.initial.self;
}
