-- A drain is its parts, one after the other.
use Rattle.std.proofs.Common.{◌≡◌, length, refl, ap, ◌∙◌, arith, rules}
use Rattle.link.specs.declared.end.End.TheVariants.{Primary}
use Rattle.link.specs.declared.part.Part.TheVariants.{Pass}
use Rattle.link.specs.Drain.{drain_parts, walk, no_calls, counted_all, drained}
use Rattle.link.specs.History.{run}
use Rattle.link.specs.Views.{model}
use Rattle.link.proofs.Walks.{walks_more, walks_all, answered}
use Rattle.link.proofs.link.Link.drain_open.Goals as goal

pub loop-part-init : goal.loop-part-init
loop-part-init g c =
    record { walks = record { leads = refl; counts = refl }; few = omega arith; keeps = refl }

pub loop-part-preserved : goal.loop-part-preserved
loop-part-preserved g c =
    let m = g.L.Line.meaning in
    let h = c.loop-part.invariant in
    let l = model m c.loop-part.self in
    let calls = c.calls_of-n.ensures.calls in
    record {
      walks =
          walks_more c.drain_parts-parts.result c.loop-part.part-index (model m c.args.self.now) l (model m c.repeat.new.self) c.default-done.result c.loop-part.done
          c.repeat.new.done h.walks (Pass Primary) (omega (arith, ap length c.drain_parts-parts.ensures)) (c.repeat.ensures.leaves ∙ ap (λ cs. run l cs) calls)
          (c.repeat.ensures.counts ∙ ap (λ cs. counted_all l cs c.loop-part.done) calls);
      few = omega (arith, h.few, c.repeat.ensures.few, c.calls_of-n.ensures.few);
      keeps = c.repeat.ensures.keeps ∙ h.keeps;
    }

pub returns : goal.returns
returns g c =
    let m = g.L.Line.meaning in
    let l = model m c.args.self.now in
    let n = model m c.loop-part.self in
    let parts = c.drain_parts-parts.result in
    let d = c.default-done.result in
    let h = c.loop-part.invariant in
    let is : parts ≡ drain_parts = c.drain_parts-parts.ensures in
    let all = walks_all parts c.loop-part.part-index l n l d c.loop-part.done d h.walks (omega (arith, ap length is)) in
    let none : d ≡ no_calls = search rules in
    record {
      answers =
          answered l n (walk parts l) c.loop-part.done c.settled.result c.settled.ensures all.0 (all.1 ∙ ap (λ x. counted_all l (walk parts l) x) none)
          ∙ ap (λ ps. drained l (walk ps l)) is;
      leaves = all.0 ∙ ap (λ ps. run l (walk ps l)) is;
      keeps = h.keeps;
    }
