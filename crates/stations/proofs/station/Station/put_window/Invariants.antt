use Rattle.std.proofs.Common.{◌≡◌, drop}
use Rattle.lines.specs.Entries.{on, with_way}
use Rattle.stations.specs.Puts.{again_from, counts}
use Rattle.stations.specs.Views.{station_of}
use Rattle.stations.proofs.Resends.{Grows}
use Rattle.stations.proofs.station.Station.put_window.Given as goal

-- only this way has changed; the blocks that are left take it to its end; what it grew by is counted
abbrev pub invariant-loop-block : goal.invariant-loop-block
invariant-loop-block g l =
    let before = g.L.Line.meaning l.initial.line in
    let now = g.L.Line.meaning l.line in
    let x = station_of l.self in
    record {
      only : now ≡ with_way l.way (on l.way now) before;
      left : again_from before.capacity x l.ns.value (drop l.block-index x.window) (on l.way now) ≡ again_from before.capacity x l.self.va.value x.window (on l.way before);
      grows : Grows l.block-index (on l.way before) (on l.way now);
      counted : l.counts ≡ counts l.block-index (on l.way before) (on l.way now);
      keeps : g.L.Line.beyond l.line ≡ g.L.Line.beyond l.initial.line;
    }
