-- What a link holds, and when it is sound.
use Rattle.std.specs.Prelude.{ℕ, ◌+◌, ◌*◌, Bool, true, false, ◌&&◌, List, length, Some, None, Ok, Err, Option, Result, ◌==◌, nat_le}
use Rattle.lines.specs.Entries.{Entry, Lists}
use Rattle.stations.specs.declared.mode.Mode.{Mode}
use Rattle.stations.specs.declared.mode.Mode.TheVariants.{Closed}
use Rattle.stations.specs.Station.{Station, fresh}
use Rattle.stations.specs.Primary.{Timer as Clock}
use Rattle.link.specs.declared.refusal.LinkRefusal.{LinkRefusal}
use Rattle.link.specs.declared.refusal.LinkRefusal.TheVariants.{Timer, InUse}

-- K entries a way, D ticks an entry, T ticks until a request is sent again
pub record Measures : Type 0 where
  pub k : ℕ
  pub d : ℕ
  pub t : ℕ

-- way 1, way 2, the primary's mode and timer, whether the secondary is open, the primary's station and the secondary's
pub data State : Type 0 where
  state : List Entry → List Entry → Mode → Clock → Bool → Station → Station → State

-- what a link holds: the refusal of its check, if any, its measures, and its state
pub record Model : Type 0 where
  pub fault : Option LinkRefusal
  pub measures : Measures
  pub now : State

-- T is 2D + 1 to 10,000, K at least 8
abbrev pub timed : ℕ → ℕ → ℕ → Bool
timed k d t = nat_le 8 k && nat_le (2 * d + 1) t && nat_le t 10000

abbrev pub no_entries : List Entry → List Entry → Bool
no_entries one two = length one == 0 && length two == 0

abbrev pub fault_by : Bool → Bool → Option LinkRefusal
fault_by false free = Some Timer
fault_by true false = Some InUse
fault_by true true = None

-- the check of a link over a line: timer, then in use
abbrev pub fault_of : Lists → ℕ → Option LinkRefusal
fault_of l t = fault_by (timed l.capacity l.lifetime t) (no_entries l.one l.two)

abbrev pub check_by : Option LinkRefusal → Result (Unit {0}) LinkRefusal
check_by (Some e) = Err e
check_by None = Ok tt

abbrev pub check_answer : Lists → ℕ → Result (Unit {0}) LinkRefusal
check_answer l t = check_by (fault_of l t)

-- a new link: both ends closed, reset, with nothing waiting and no timer
abbrev pub made : Lists → ℕ → Model
made l t =
    record {
      fault = fault_of l t;
      measures = record { k = l.capacity; d = l.lifetime; t = t };
      now = state l.one l.two Closed None false fresh fresh;
    }
