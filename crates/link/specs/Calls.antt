-- What each call on a link answers, and what the link then holds.
use Rattle.std.specs.Prelude.{ℕ, cond, List, [], ◌∷◌, ◌++◌, length, drop, is_ok, Some, None, Ok, Err, Option, Result}
use Rattle.frames.specs.declared.way.Way.{Way}
use Rattle.frames.specs.declared.way.Way.TheVariants.{One, Two}
use Rattle.lines.specs.declared.refusal.LineRefusal.{LineRefusal}
use Rattle.lines.specs.declared.refusal.LineRefusal.TheVariants.{Idle, Damaged}
use Rattle.lines.specs.Entries.{Entry, struck, frame, at}
use Rattle.lines.specs.Line.{older, strike_by, hit_at}
use Rattle.stations.specs.declared.answer.Counts.{Counts}
use Rattle.stations.specs.declared.answer.Taken.{Taken}
use Rattle.stations.specs.declared.refusal.StationRefusal.{StationRefusal}
use Rattle.stations.specs.Station as end
use Rattle.stations.specs.Station.{Block}
use Rattle.stations.specs.Puts.{no_counts, counts}
use Rattle.stations.specs.Answers.{some}
use Rattle.stations.specs.Calls.{taken_by}
use Rattle.stations.specs.Primary.{Move, primary_hears, primary_ticks, primary_opens, primary_closes, primary_polls, primary_sends}
use Rattle.stations.specs.Secondary.{Reply, secondary_hears, secondary_sends}
use Rattle.link.specs.declared.fetched.Fetched.{Fetched}
use Rattle.link.specs.declared.end.End.{End}
use Rattle.link.specs.declared.end.End.TheVariants.{Primary, Secondary}
use Rattle.link.specs.declared.refusal.LinkRefusal.{LinkRefusal}
use Rattle.link.specs.declared.refusal.LinkRefusal.TheVariants.{Line, Station}
use Rattle.link.specs.State.{Measures, State, state, Model}

-- a station's answer, where a refusal of the station is passed on
abbrev pub passed_on : {A : Type 0} → Result A StationRefusal → Result A LinkRefusal
passed_on (Err e) = Err (Station e)
passed_on (Ok a) = Ok a

-- ---- a move of the primary, a reply of the secondary

-- the primary puts on way 1; the secondary and way 2 stay
abbrev pub by_primary : Result Move StationRefusal → State → State
by_primary (Err e) x = x
by_primary (Ok r) (state one two m t u p s) = state r.out two r.mode r.timer u r.station s

-- the secondary puts on way 2; the primary and way 1 stay
abbrev pub by_secondary : Result Reply StationRefusal → State → State
by_secondary (Err e) x = x
by_secondary (Ok r) (state one two m t u p s) = state one r.out m t r.opened p r.station

-- a granted call answers how many frames it put and lost
abbrev pub counted : Result Move StationRefusal → List Entry → Result Counts LinkRefusal
counted (Err e) before = Err (Station e)
counted (Ok r) before = Ok (counts r.tried before r.out)

abbrev pub replied : Result Reply StationRefusal → List Entry → Result Counts LinkRefusal
replied (Err e) before = Err (Station e)
replied (Ok r) before = Ok (counts r.tried before r.out)

-- ---- open, close, poll, send

abbrev pub opens_answer : Measures → State → Result Counts LinkRefusal
opens_answer g (state one two m t u p s) = counted (primary_opens g.k m t p one) one

abbrev pub opens_leaves : Measures → State → State
opens_leaves g (state one two m t u p s) = by_primary (primary_opens g.k m t p one) (state one two m t u p s)

abbrev pub closes_answer : Measures → State → Result Counts LinkRefusal
closes_answer g (state one two m t u p s) = counted (primary_closes g.k m t p one) one

abbrev pub closes_leaves : Measures → State → State
closes_leaves g (state one two m t u p s) = by_primary (primary_closes g.k m t p one) (state one two m t u p s)

abbrev pub polls_answer : Measures → State → Result Counts LinkRefusal
polls_answer g (state one two m t u p s) = counted (primary_polls g.k m t p one) one

abbrev pub polls_leaves : Measures → State → State
polls_leaves g (state one two m t u p s) = by_primary (primary_polls g.k m t p one) (state one two m t u p s)

abbrev pub sends_answer : Measures → End → Block → State → Result Counts LinkRefusal
sends_answer g Primary z (state one two m t u p s) = counted (primary_sends g.k m t p z one) one
sends_answer g Secondary z (state one two m t u p s) = replied (secondary_sends g.k u s z two) two

abbrev pub sends_leaves : Measures → End → Block → State → State
sends_leaves g Primary z (state one two m t u p s) = by_primary (primary_sends g.k m t p z one) (state one two m t u p s)
sends_leaves g Secondary z (state one two m t u p s) = by_secondary (secondary_sends g.k u s z two) (state one two m t u p s)

-- ---- take: a line's take, then the station's rule

-- what a frame made; one that the number rule refuses is gone all the same
abbrev pub moved : Move → List Entry → Result Taken LinkRefusal
moved r before = passed_on (taken_by r.refused (counts r.tried before r.out) r.acknowledged (some r.taken) r.over)

abbrev pub reacted : Reply → List Entry → Result Taken LinkRefusal
reacted r before = passed_on (taken_by r.refused (counts r.tried before r.out) r.acknowledged (some r.taken) r.over)

abbrev pub takes_answer : Measures → End → State → Result Taken LinkRefusal
takes_answer g Primary (state one [] m t u p s) = Err (Line Idle)
takes_answer g Primary (state one (struck a ∷ es) m t u p s) = Err (Line Damaged)
takes_answer g Primary (state one (frame a f ∷ es) m t u p s) = moved (primary_hears g.k m t p f one) one
takes_answer g Secondary (state [] two m t u p s) = Err (Line Idle)
takes_answer g Secondary (state (struck a ∷ es) two m t u p s) = Err (Line Damaged)
takes_answer g Secondary (state (frame a f ∷ es) two m t u p s) = reacted (secondary_hears g.k u s f two) two

abbrev pub takes_leaves : Measures → End → State → State
takes_leaves g Primary (state one [] m t u p s) = state one [] m t u p s
takes_leaves g Primary (state one (struck a ∷ es) m t u p s) = state one es m t u p s
takes_leaves g Primary (state one (frame a f ∷ es) m t u p s) = by_primary (Ok (primary_hears g.k m t p f one)) (state one es m t u p s)
takes_leaves g Secondary (state [] two m t u p s) = state [] two m t u p s
takes_leaves g Secondary (state (struck a ∷ es) two m t u p s) = state es two m t u p s
takes_leaves g Secondary (state (frame a f ∷ es) two m t u p s) = by_secondary (Ok (secondary_hears g.k u s f two)) (state es two m t u p s)

-- ---- tick: the line first, then the primary's timer

abbrev pub ticks_answer : Measures → State → Result Counts LinkRefusal
ticks_answer g (state one two m t u p s) =
    let aged = older g.d one in counted (Ok (primary_ticks g.k g.t m t p aged)) aged

abbrev pub ticks_leaves : Measures → State → State
ticks_leaves g (state one two m t u p s) =
    let aged = older g.d one in
    by_primary (Ok (primary_ticks g.k g.t m t p aged)) (state aged (older g.d two) m t u p s)

-- ---- fetch: the oldest waiting block, in any mode

abbrev pub fetches_answer : End → State → Result Block LinkRefusal
fetches_answer Primary (state one two m t u p s) = passed_on (end.fetch_answer p)
fetches_answer Secondary (state one two m t u p s) = passed_on (end.fetch_answer s)

-- it answers the block's length, and writes the block to the front of the place
abbrev pub fetched : Result Block LinkRefusal → Result Fetched LinkRefusal
fetched (Err e) = Err e
fetched (Ok z) = Ok (record { counts = no_counts; length = length z })

abbrev pub fetch_writes : Result Block LinkRefusal → List ℕ → List ℕ
fetch_writes (Err e) place = place
fetch_writes (Ok z) place = z ++ drop (length z) place

abbrev pub fetches_leaves : End → State → State
fetches_leaves Primary (state one two m t u p s) = state one two m t u (end.fetch_leaves p) s
fetches_leaves Secondary (state one two m t u p s) = state one two m t u p (end.fetch_leaves s)

-- ---- strike: the line's

abbrev pub struck_by : Result (Unit {0}) LineRefusal → Result Counts LinkRefusal
struck_by (Err e) = Err (Line e)
struck_by (Ok x) = Ok no_counts

abbrev pub strikes_answer : Way → ℕ → ℕ → ℕ → State → Result Counts LinkRefusal
strikes_answer One place start mask (state one two m t u p s) = struck_by (strike_by (at one place) start mask)
strikes_answer Two place start mask (state one two m t u p s) = struck_by (strike_by (at two place) start mask)

abbrev pub struck_way : ℕ → ℕ → ℕ → List Entry → List Entry
struck_way place start mask es = cond (is_ok (strike_by (at es place) start mask)) (hit_at place es) es

abbrev pub strikes_leaves : Way → ℕ → ℕ → ℕ → State → State
strikes_leaves One place start mask (state one two m t u p s) = state (struck_way place start mask one) two m t u p s
strikes_leaves Two place start mask (state one two m t u p s) = state one (struck_way place start mask two) m t u p s

-- ---- a link that its check refused answers that number before all else, and nothing alters

abbrev pub guarded : {A : Type 0} → Option LinkRefusal → Result A LinkRefusal → Result A LinkRefusal
guarded (Some e) r = Err e
guarded None r = r

abbrev pub held_by : Option LinkRefusal → State → State → State
held_by (Some e) before after = before
held_by None before after = after

-- the link after a call that leaves this state
abbrev pub after : Model → (Measures → State → State) → Model
after l f = record l { now = held_by l.fault l.now (f l.measures l.now) }

-- and what the call answers
abbrev pub asked : {A : Type 0} → Model → (Measures → State → Result A LinkRefusal) → Result A LinkRefusal
asked l f = guarded l.fault (f l.measures l.now)
