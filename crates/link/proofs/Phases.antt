-- The invariant of a sound link: the phase of its connection, and that no block taken in is lost.
use Rattle.std.proofs.Common.{ℕ, Bool, true, false, List, [], Some, None}
use Rattle.lines.specs.Entries.{Entry}
use Rattle.stations.specs.declared.mode.Mode.TheVariants.{Closed, Opening, Open, Closing}
use Rattle.stations.specs.Station.{Station}
use Rattle.stations.specs.Primary.{Timer}
use Rattle.link.specs.State.{Measures, State, state}
use Rattle.link.specs.History.{Call, leaves, notes, Tally, Account, account}
use Rattle.link.specs.Promise.{Whole}
use Rattle.link.proofs.Exchange.{Exchange}
use Rattle.link.proofs.Ends.{Duplex}
use Rattle.link.proofs.Openings.{Sarms, Newly}
use Rattle.link.proofs.Closings.{Ending, Last}

-- the ends' modes; where the primary is closing, the secondary may be open still (closing) or closed (half-closed)
pub data Phase (g : Measures) : State → Account → Type 0 where
  both_closed : {p s : Station} {pt st : Tally} → Phase g (state [] [] Closed None false p s) (account pt st)
  opening : {n : ℕ} {one two : List Entry} {u : Bool} {p s : Station} {pt st : Tally} →
      Exchange g (Some n) one two → Sarms one → Newly u two s st →
      Phase g (state one two Opening (Some n) u p s) (account pt st)
  both_open : {t : Timer} {one two : List Entry} {p s : Station} {pt st : Tally} →
      Exchange g t one two → Duplex false p pt s st one two →
      Phase g (state one two Open t true p s) (account pt st)
  closing : {n : ℕ} {one two : List Entry} {p s : Station} {pt st : Tally} →
      Exchange g (Some n) one two → Duplex true s st p pt two one →
      Phase g (state one two Closing (Some n) true p s) (account pt st)
  half_closed : {n : ℕ} {one two : List Entry} {p s : Station} {pt st : Tally} →
      Exchange g (Some n) one two → Ending one → Last one two →
      Phase g (state one two Closing (Some n) false p s) (account pt st)

abbrev pub Wholes : State → Account → Type 0
Wholes (state one two m t u p s) (account pt st) = Whole p pt × Whole s st

abbrev pub Good : Measures → State → Account → Type 0
Good g x y = Phase g x y × Wholes x y

-- the invariant after a call
abbrev pub Then : Call → Measures → State → Account → Type 0
Then c g x y = Good g (leaves c g x) (notes c g x y)
