-- What the code's link holds.
use Rattle.std.specs.Prelude.{ℕ, Some, None, Ok, Err, Option, Result}
use Rattle.lines.specs.Entries.{Lists}
use Rattle.stations.specs.Views.{PrimaryView, SecondaryView, primary_of, secondary_of}
use Rattle.link.specs.declared.refusal.LinkRefusal.{LinkRefusal}
use Rattle.link.specs.declared.link.Link.{Link}
use Rattle.link.specs.State.{state, Model}

-- the refusal that the check answered, if any
abbrev pub fault_in : Result (Unit {0}) LinkRefusal → Option LinkRefusal
fault_in (Ok x) = None
fault_in (Err e) = Some e

-- that refusal, the line's meaning, T and the two ends, put together
abbrev pub model_of : Option LinkRefusal → Lists → ℕ → PrimaryView → SecondaryView → Model
model_of fault l t p s =
    record {
      fault = fault;
      measures = record { k = l.capacity; d = l.lifetime; t = t };
      now = state l.one l.two p.mode p.timer s.opened p.station s.station;
    }

-- over any line, by the line's meaning
abbrev pub model : {L : Type 0} → (L → Lists) → Link L → Model
model meaning c = model_of (fault_in c.checked) (meaning c.line) c.limit (primary_of c.primary) (secondary_of c.secondary)
