-- What a sound link promises after every history.
use Rattle.std.specs.Prelude.{◌≡◌, ℕ, ◌+◌, ◌≤◌, List, ◌++◌, length, take, None, Err, ◌≢◌}
use Rattle.stations.specs.declared.mode.Mode.TheVariants.{Open}
use Rattle.stations.specs.declared.refusal.StationRefusal.TheVariants.{Numbering}
use Rattle.stations.specs.Station.{Station, outstanding}
use Rattle.link.specs.declared.end.End.{End}
use Rattle.link.specs.declared.refusal.LinkRefusal.TheVariants.{Station as ByStation}
use Rattle.lines.specs.Entries.{Lists}
use Rattle.link.specs.State.{State, state, Model, made}
use Rattle.link.specs.Calls.{takes_answer}
use Rattle.link.specs.History.{Call, run, Tally, Account, account, no_tally, account_of}

-- from an end to the other, all since opening: what the other took in is the front of what this end accepted; the blocks that
-- are acknowledged to this end, its oldest accepted, are among them; and no more than 7 are accepted and not acknowledged
pub record Direction (this other : Tally) : Type 0 where
  pub prefix : other.taken ≡ take (length other.taken) this.accepted
  pub arrived : take this.acknowledged other.taken ≡ take this.acknowledged this.accepted
  pub reached : this.acknowledged ≤ length other.taken
  pub within_accepted : length other.taken ≤ length this.accepted
  pub window : length this.accepted ≤ this.acknowledged + 7

-- what the question for outstanding blocks answers is what the end accepted since opening and was not acknowledged
pub record Outstanding (x : Station) (y : Tally) : Type 0 where
  pub unacknowledged : length y.accepted ≡ y.acknowledged + outstanding x

-- what was fetched, followed by what waits, is all that the end ever took in
pub record Whole (x : Station) (y : Tally) : Type 0 where
  pub whole : y.fetched ++ x.waiting ≡ y.ever

-- the promise for a link in this state with this account
abbrev pub Promised : State → Account → Type 0
Promised (state one two m t u p s) (account pt st) =
    Whole p pt × Whole s st × (m ≡ Open → Direction pt st × Direction st pt × Outstanding p pt × Outstanding s st)

-- no take answers numbering
abbrev pub NeverNumbering : Model → Type 0
NeverNumbering l = (e : End) → takes_answer l.measures e l.now ≢ Err (ByStation Numbering)

-- after a history on a sound link, from its making on
pub record Kept (l : Model) (calls : List Call) : Type 0 where
  pub promised : Promised (run l calls).now (account_of l (account no_tally no_tally) calls)
  pub numbered : NeverNumbering (run l calls)

-- the law: whatever calls a sound link then meets
abbrev pub Law : Model → Type 0
Law l = l.fault ≡ None → (calls : List Call) → Kept l calls

-- the same for a link that has met some calls before: whatever its making and its history were, it stands where the
-- longer history leads, and the promise holds of that
abbrev pub Lasting : Model → List Call → Model → Type 0
Lasting before calls now =
    (lists : Lists) (t : ℕ) (history : List Call) → (made lists t).fault ≡ None → before ≡ run (made lists t) history
    → (now ≡ run (made lists t) (history ++ calls)) × Kept (made lists t) (history ++ calls)
