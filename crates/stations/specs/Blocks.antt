-- The blocks of a window and of a queue, the oldest first.
use Rattle.std.specs.Prelude.{List, map, take}
use Rattle.frames.specs.Blocks.{octets_in}
use Rattle.stations.specs.declared.row.Row.{Row}
use Rattle.stations.specs.Station.{Block}

abbrev pub in_row : Row → List Block
in_row r = map octets_in (take r.count r.blocks)
