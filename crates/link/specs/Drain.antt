-- A drain: the walk of takes, ticks and polls that it is, and what it answers.
use Rattle.std.specs.Prelude.{ℕ, ◌+◌, ◌-◌, min, Bool, true, false, ◌&&◌, List, [], ◌∷◌, ◌++◌, replicate, Some, None, Ok, Err, Option, Result, ◌==◌}
use Rattle.frames.specs.declared.way.Way.{Way}
use Rattle.frames.specs.declared.way.Way.TheVariants.{One, Two}
use Rattle.stations.specs.declared.answer.Counts.{Counts}
use Rattle.stations.specs.declared.answer.Taken.{Taken}
use Rattle.stations.specs.Counts.{all_of}
use Rattle.stations.specs.Puts.{no_counts}
use Rattle.stations.specs.declared.refusal.StationRefusal.TheVariants.{Mode}
use Rattle.stations.specs.Primary.{Timer, is_open}
use Rattle.link.specs.declared.drained.Drained.{Drained}
use Rattle.link.specs.declared.end.End.{End}
use Rattle.link.specs.declared.end.End.TheVariants.{Primary, Secondary}
use Rattle.link.specs.declared.part.Part.{Part}
use Rattle.link.specs.declared.part.Part.TheVariants.{Pass, Ask, Poll}
use Rattle.link.specs.declared.refusal.LinkRefusal.{LinkRefusal}
use Rattle.link.specs.declared.refusal.LinkRefusal.TheVariants.{Station}
use Rattle.link.specs.State.{State, state, Model}
use Rattle.link.specs.Questions.{mode_of, outstanding_at, entries_on}
use Rattle.link.specs.Calls.{asked, opens_answer, closes_answer, polls_answer, sends_answer, takes_answer, ticks_answer}
use Rattle.link.specs.History.{Call, opens, closes, polls, ticks, sends, takes, fetches, strikes, step, run}

-- ---- the walk

-- pass at primary, secondary, primary, secondary; ask; pass at secondary, primary, secondary; poll; pass at secondary,
-- primary, secondary
abbrev pub drain_parts : List Part
drain_parts =
    Pass Primary ∷ Pass Secondary ∷ Pass Primary ∷ Pass Secondary ∷ Ask
    ∷ Pass Secondary ∷ Pass Primary ∷ Pass Secondary ∷ Poll
    ∷ Pass Secondary ∷ Pass Primary ∷ Pass Secondary ∷ []

-- the way that leads to an end
abbrev pub way_to : End → Way
way_to Primary = Two
way_to Secondary = One

abbrev pub timer_of : State → Timer
timer_of (state one two m t u p s) = t

-- ticks until the poll that is outstanding is sent again, at T; where none is, a poll; T is at most 10,000 on a link that
-- was granted, and a drain ticks no more often on any
abbrev pub asking : Timer → ℕ → List Call
asking None limit = polls ∷ []
asking (Some n) limit = replicate (min limit 10000 - n) ticks

-- the calls of a part; a pass takes at an end once for each entry of its incoming way, on which it puts nothing
abbrev pub part_calls : Part → Model → List Call
part_calls (Pass e) l = replicate (entries_on (way_to e) l.now) (takes e)
part_calls Ask l = asking (timer_of l.now) l.measures.t
part_calls Poll l = polls ∷ []

-- part after part, each from where the last one led
abbrev pub walk : List Part → Model → List Call
walk [] l = []
walk (p ∷ ps) l = part_calls p l ++ walk ps (run l (part_calls p l))

-- ---- what is counted

abbrev pub counts_by : Result Counts LinkRefusal → Counts
counts_by (Ok c) = c
counts_by (Err e) = no_counts

abbrev pub taken_counts : Result Taken LinkRefusal → Counts
taken_counts (Ok a) = a.counts
taken_counts (Err e) = no_counts

-- the frames that a call puts and loses; none where it is refused
abbrev pub frames_of : Call → Model → Counts
frames_of opens l = counts_by (asked l opens_answer)
frames_of closes l = counts_by (asked l closes_answer)
frames_of polls l = counts_by (asked l polls_answer)
frames_of ticks l = counts_by (asked l ticks_answer)
frames_of (sends e z) l = counts_by (asked l (λ g x. sends_answer g e z x))
frames_of (takes e) l = taken_counts (asked l (λ g x. takes_answer g e x))
frames_of (fetches e) l = no_counts
frames_of (strikes w place start mask) l = no_counts

-- all that is counted
abbrev pub total : Drained → ℕ
total d = d.counts.put + d.counts.lost + d.ticks + d.takes

abbrev pub no_calls : Drained
no_calls = record { counts = no_counts; ticks = 0; takes = 0; settled = false }

-- so many ticks and takes more, and these frames
abbrev pub more : ℕ → ℕ → Counts → Drained → Drained
more i j c d = record d { counts = all_of d.counts c; ticks = d.ticks + i; takes = d.takes + j }

-- a tick counts as a tick, and a take as a take, of a struck entry too
abbrev pub counted_call : Call → Counts → Drained → Drained
counted_call opens c d = more 0 0 c d
counted_call closes c d = more 0 0 c d
counted_call polls c d = more 0 0 c d
counted_call ticks c d = more 1 0 c d
counted_call (sends e z) c d = more 0 0 c d
counted_call (takes e) c d = more 0 1 c d
counted_call (fetches e) c d = more 0 0 c d
counted_call (strikes w place start mask) c d = more 0 0 c d

-- a list of calls, along the run that they make
abbrev pub counted_all : Model → List Call → Drained → Drained
counted_all l [] d = d
counted_all l (c ∷ cs) d = counted_all (step l c) cs (counted_call c (frames_of c l) d)

-- ---- the call

-- neither end has a block outstanding
abbrev pub settled_at : State → Bool
settled_at x = outstanding_at Primary x == 0 && outstanding_at Secondary x == 0

abbrev pub settled_by : Bool → Drained → Drained
settled_by b d = record d { settled = b }

-- a link that its check refused answers that; the primary must be open
abbrev pub drain_refusal : Option LinkRefusal → Bool → Option LinkRefusal
drain_refusal (Some e) opened = Some e
drain_refusal None false = Some (Station Mode)
drain_refusal None true = None

abbrev pub drain_check : Model → Option LinkRefusal
drain_check l = drain_refusal l.fault (is_open (mode_of l.now))

-- the calls that a drain makes: none where it is refused
abbrev pub drain_calls_by : Option LinkRefusal → Model → List Call
drain_calls_by (Some e) l = []
drain_calls_by None l = walk drain_parts l

abbrev pub drain_calls : Model → List Call
drain_calls l = drain_calls_by (drain_check l) l

-- what it answers
abbrev pub drained : Model → List Call → Drained
drained l calls = settled_by (settled_at (run l calls).now) (counted_all l calls no_calls)

abbrev pub drain_answer_by : Option LinkRefusal → Model → List Call → Result Drained LinkRefusal
drain_answer_by (Some e) l calls = Err e
drain_answer_by None l calls = Ok (drained l calls)

abbrev pub drain_answer : Model → Result Drained LinkRefusal
drain_answer l = drain_answer_by (drain_check l) l (drain_calls l)
