-- What the code's stations hold.
use Rattle.std.specs.Prelude.{Bool, true, false, Some}
use Rattle.stations.specs.declared.station.FarStatus.{FarStatus}
use Rattle.stations.specs.declared.station.FarStatus.TheVariants.{Ready, Busy}
use Rattle.stations.specs.declared.station.Station.{Station as Code}
use Rattle.stations.specs.declared.mode.Mode.{Mode}
use Rattle.stations.specs.declared.primary.Primary.{Primary}
use Rattle.stations.specs.declared.secondary.Secondary.{Secondary}
use Rattle.stations.specs.declared.secondary.SecondaryMode.{SecondaryMode}
use Rattle.stations.specs.declared.secondary.SecondaryMode.TheVariants as secondary
use Rattle.stations.specs.Primary.{Timer}
use Rattle.stations.specs.Blocks.{in_row}
use Rattle.stations.specs.Station.{Station, fetch_leaves}

abbrev pub is_busy : FarStatus → Bool
is_busy Ready = false
is_busy Busy = true

abbrev pub station_of : Code → Station
station_of c =
    record { vs = c.vs.value; va = c.va.value; vr = c.vr.value; window = in_row c.window; busy = is_busy c.far; waiting = in_row c.queue }

-- the primary: its mode, its timer and its station
pub record PrimaryView : Type 0 where
  pub mode : Mode
  pub timer : Timer
  pub station : Station

abbrev pub primary_of : Primary → PrimaryView
primary_of c = record { mode = c.mode; timer = c.timer; station = station_of c.station }

-- after it asked: the timer is 0
abbrev pub asked_primary : PrimaryView → PrimaryView
asked_primary v = record { mode = v.mode; timer = Some 0; station = v.station }

-- after a fetch
abbrev pub fetched_primary : PrimaryView → PrimaryView
fetched_primary v = record { mode = v.mode; timer = v.timer; station = fetch_leaves v.station }

-- the secondary: whether it is open, and its station
pub record SecondaryView : Type 0 where
  pub opened : Bool
  pub station : Station

abbrev pub opened_by : SecondaryMode → Bool
opened_by secondary.Closed = false
opened_by secondary.Open = true

abbrev pub secondary_of : Secondary → SecondaryView
secondary_of c = record { opened = opened_by c.mode; station = station_of c.station }

abbrev pub fetched_secondary : SecondaryView → SecondaryView
fetched_secondary v = record { opened = v.opened; station = fetch_leaves v.station }
