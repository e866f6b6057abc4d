-- Histories of acts on one link: single calls, and drains among them.
use Rattle.std.specs.Prelude.{List, [], ◌∷◌, ◌++◌}
use Rattle.link.specs.State.{Model}
use Rattle.link.specs.History.{Call, run, Account, account, no_tally, account_of}
use Rattle.link.specs.Drain.{drain_calls}

-- a call that is not made of others, or a drain
pub data Act : Type 0 where
  single : Call → Act
  drains : Act

-- the calls that an act comes to: a drain comes to those of its walk
abbrev pub singles_of : Model → Act → List Call
singles_of l (single c) = c ∷ []
singles_of l drains = drain_calls l

-- a history with the calls of each drain in its place, so that a take within a drain counts like any other
abbrev pub singles : Model → List Act → List Call
singles l [] = []
singles l (c ∷ cs) = singles_of l c ++ singles (run l (singles_of l c)) cs

-- the link after a history
abbrev pub led : Model → List Act → Model
led l acts = run l (singles l acts)

-- and its account
abbrev pub account_after : Model → List Act → Account
account_after l acts = account_of l (account no_tally no_tally) (singles l acts)
