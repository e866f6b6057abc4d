use Rattle.std.proofs.Common.{◌≡◌, ◌+◌, ◌<◌, [], length, get_or, drop, subst, sym, ap, ◌∙◌, ap₂, arith}
use Rattle.std.proofs.lemmas.List.{length-map, get_or-map}
use Rattle.frames.specs.Blocks.{octets_in}
use Rattle.frames.specs.Parts.{given}
use Rattle.lines.specs.Entries.{on, with_way}
use Rattle.stations.specs.Counts.{all_of}
use Rattle.stations.specs.Puts.{put, inform, again_from, counts}
use Rattle.stations.specs.Views.{station_of}
use Rattle.stations.proofs.Resends.{Grows, put_grows, grows_more, counts_more, again_more, only_on}
use Rattle.stations.proofs.station.Station.put_window.Goals as goal

pub loop-block-preserved : goal.loop-block-preserved
loop-block-preserved g c =
    let w = c.args.way in
    let m = g.L.Line.meaning in
    let l = m c.args.line.now in
    let k = m c.loop-block.line in
    let n = m c.deliver.new.line in
    let x = station_of c.args.self.now in
    let i = c.loop-block.block-index in
    let row = c.blocks-block-items.result.now in
    let same = c.blocks-block-items.ensures in
    let p = inform x c.loop-block.ns.value (get_or x.window i []) in
    let z : c.octets.result.now ≡ get_or x.window i [] =
    c.octets.ensures ∙ ap octets_in c.block-item.is ∙ sym (get_or-map octets_in row i c.block-item.result [] c.loop-block-test.true)
    ∙ ap (λ zs. get_or zs i []) same in
    let e : given c.inform.result ≡ p = c.inform.ensures ∙ ap (inform x c.loop-block.ns.value) z in
    let es = put k.capacity (on w k) p in
    let d : n ≡ with_way w es k = c.deliver.ensures.leaves ∙ ap (λ q. with_way w (put k.capacity (on w k) q) k) e in
    let a : c.deliver.result ≡ counts 1 (on w k) es = c.deliver.ensures.answers ∙ ap (λ q. counts 1 (on w k) (put k.capacity (on w k) q)) e in
    let o = only_on w l k n es c.loop-block.invariant.only d in
    let one = put_grows k.capacity (on w k) p in
    let h : i < length x.window = omega (arith, length-map row octets_in, ap length same, c.loop-block-test.true) in
    record {
      only = o.line;
      left =
          ap (λ v. again_from l.capacity x v (drop (i + 1) x.window) (on w n)) c.next-ns.ensures
          ∙ again_more l.capacity x x.window c.loop-block.ns.value i (on w k) (on w n) h (o.way ∙ ap (λ q. put q (on w k) p) o.capacity)
          ∙ c.loop-block.invariant.left;
      grows = subst (Grows (i + 1) (on w l)) (sym o.way) (grows_more i 1 (on w l) (on w k) es c.loop-block.invariant.grows one);
      counted =
          c.add-counts.ensures ∙ ap₂ all_of c.loop-block.invariant.counted a
          ∙ counts_more i 1 (i + 1) (on w l) (on w k) es c.loop-block.invariant.grows one (omega arith)
          ∙ ap (counts (i + 1) (on w l)) (sym o.way);
      keeps = c.deliver.ensures.keeps ∙ c.loop-block.invariant.keeps;
    }
