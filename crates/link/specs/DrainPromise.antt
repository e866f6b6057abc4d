-- What a sound link promises of its drains, and after every history with drains among its calls.
use Rattle.std.specs.Prelude.{◌≡◌, ◌+◌, ◌*◌, ◌≤◌, List, length, true, None, Ok}
use Rattle.frames.specs.declared.way.Way.{Way}
use Rattle.stations.specs.declared.mode.Mode.TheVariants.{Open}
use Rattle.stations.specs.Station.{Block}
use Rattle.link.specs.declared.drained.Drained.{Drained}
use Rattle.link.specs.declared.end.End.TheVariants.{Primary, Secondary}
use Rattle.link.specs.State.{State, Model}
use Rattle.link.specs.Questions.{mode_of, waiting_at, entries_on}
use Rattle.link.specs.History.{run, Account, account, account_of}
use Rattle.link.specs.Drain.{timer_of, drain_answer, drain_calls}
use Rattle.link.specs.Acts.{Act, led, account_after}
use Rattle.link.specs.Promise.{Promised, NeverNumbering}

-- nothing waits to be fetched
abbrev pub NothingWaits : State → Type 0
NothingWaits x = (waiting_at Primary x ≡ 0) × (waiting_at Secondary x ≡ 0)

-- every block that either end accepted since opening is acknowledged
abbrev pub AllAcknowledged : Account → Type 0
AllAcknowledged (account p s) = (p.acknowledged ≡ length p.accepted) × (s.acknowledged ≡ length s.accepted)

-- what either end has accepted since opening, as the account has it
abbrev pub Accepted : List Block → List Block → Account → Type 0
Accepted ps ss (account p s) = (p.accepted ≡ ps) × (s.accepted ≡ ss)

abbrev pub AcceptedSame : Account → Account → Type 0
AcceptedSame (account p s) z = Accepted p.accepted s.accepted z

-- a drain of a link that stood at l with the account y answers d, and leaves the link at m with the account z: at most T
-- ticks and 2K + 47 takes; the primary is still open, with the same blocks accepted; both ways are empty and no poll is
-- outstanding; and where nothing waited it is settled, and all is acknowledged
pub record Drains (l m : Model) (d : Drained) (y z : Account) : Type 0 where
  pub ticks_most : d.ticks ≤ l.measures.t
  pub takes_most : d.takes ≤ 2 * l.measures.k + 47
  pub stays_open : mode_of m.now ≡ Open
  pub accepted_same : AcceptedSame y z
  pub empties : (w : Way) → entries_on w m.now ≡ 0
  pub no_poll : timer_of m.now ≡ None
  pub settles : NothingWaits l.now → (d.settled ≡ true) × AllAcknowledged z

-- whatever drain is granted next
abbrev pub Drainable : Model → Account → Type 0
Drainable l y =
    (d : Drained) → drain_answer l ≡ Ok d → Drains l (run l (drain_calls l)) d y (account_of l y (drain_calls l))

-- after a history, drains among its calls, on a sound link, from its making on
pub record KeptThrough (l : Model) (acts : List Act) : Type 0 where
  pub promised : Promised (led l acts).now (account_after l acts)
  pub numbered : NeverNumbering (led l acts)
  pub drains : Drainable (led l acts) (account_after l acts)

-- the law of drains: whatever calls and drains a sound link then meets
abbrev pub DrainLaw : Model → Type 0
DrainLaw l = l.fault ≡ None → (acts : List Act) → KeptThrough l acts
