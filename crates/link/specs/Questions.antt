-- What the questions answer; they are never refused and alter nothing.
use Rattle.std.specs.Prelude.{ℕ, Bool, length}
use Rattle.frames.specs.declared.way.Way.{Way}
use Rattle.frames.specs.declared.way.Way.TheVariants.{One, Two}
use Rattle.stations.specs.declared.mode.Mode.{Mode}
use Rattle.stations.specs.Station.{outstanding}
use Rattle.link.specs.declared.end.End.{End}
use Rattle.link.specs.declared.end.End.TheVariants.{Primary, Secondary}
use Rattle.link.specs.State.{State, state}

-- the primary's mode
abbrev pub mode_of : State → Mode
mode_of (state one two m t u p s) = m

-- is the secondary open?
abbrev pub secondary_open : State → Bool
secondary_open (state one two m t u p s) = u

-- blocks that an end has sent and that are not acknowledged
abbrev pub outstanding_at : End → State → ℕ
outstanding_at Primary (state one two m t u p s) = outstanding p
outstanding_at Secondary (state one two m t u p s) = outstanding s

-- blocks that wait at an end
abbrev pub waiting_at : End → State → ℕ
waiting_at Primary (state one two m t u p s) = length p.waiting
waiting_at Secondary (state one two m t u p s) = length s.waiting

-- entries on a way
abbrev pub entries_on : Way → State → ℕ
entries_on One (state one two m t u p s) = length one
entries_on Two (state one two m t u p s) = length two
