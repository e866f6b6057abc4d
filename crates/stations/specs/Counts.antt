-- Sums of counts.
use Rattle.std.specs.Prelude.{◌+◌}
use Rattle.stations.specs.declared.answer.Counts.{Counts}

abbrev pub all_of : Counts → Counts → Counts
all_of c d = record { put = c.put + d.put; lost = c.lost + d.lost }
