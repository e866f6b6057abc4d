use Rattle.std.proofs.Common.{drop, ap, ◌∙◌}
use Rattle.std.proofs.lemmas.List.{drop-drop}
use Rattle.lines.specs.Ring.{held}
use Rattle.lines.proofs.Places.{kept_then}
use Rattle.lines.proofs.ring.Ring.shed.Goals as goal

pub loop-preserved : goal.loop-preserved
loop-preserved g c = record {
  held = c.pop-gone.ensures.holds ∙ ap (λ y. drop 1 y) c.loop.invariant.held ∙ drop-drop 1 c.loop.counter (held c.args.self.now);
  kept = kept_then _ _ _ _ c.loop.invariant.kept c.pop-gone.ensures.keeps;
}
