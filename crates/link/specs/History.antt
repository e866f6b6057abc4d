-- Histories of calls on one link, and the account that is kept of them from outside: from the calls, their answers, the
-- frames that takes remove, and the answer of the question for the primary's mode.
use Rattle.std.specs.Prelude.{ℕ, ◌+◌, Bool, true, false, not, ◌&&◌, List, [], ◌∷◌, ◌++◌, Some, None, Ok, Err, Option, Result}
use Rattle.frames.specs.declared.way.Way.{Way}
use Rattle.frames.specs.declared.kind.Kind.TheVariants.{I, Rr, Rnr, Sarm, Disc, Ua, Dm}
use Rattle.frames.specs.Parts.{Parts, parts, info_of}
use Rattle.lines.specs.Entries.{Entry, struck, frame}
use Rattle.stations.specs.declared.answer.Counts.{Counts}
use Rattle.stations.specs.declared.answer.Taken.{Taken}
use Rattle.stations.specs.Station.{Block}
use Rattle.stations.specs.Primary.{is_open}
use Rattle.link.specs.declared.end.End.{End}
use Rattle.link.specs.declared.end.End.TheVariants.{Primary, Secondary}
use Rattle.link.specs.declared.refusal.LinkRefusal.{LinkRefusal}
use Rattle.link.specs.State.{Measures, State, state, Model}
use Rattle.link.specs.Questions.{mode_of}
use Rattle.link.specs.Calls.{opens_leaves, closes_leaves, polls_leaves, sends_answer, sends_leaves, takes_answer, takes_leaves, ticks_leaves, fetches_answer, fetches_leaves, strikes_leaves, after}

-- the calls on a link
pub data Call : Type 0 where
  opens closes polls ticks : Call
  sends : End → Block → Call
  takes : End → Call
  fetches : End → Call
  strikes : Way → ℕ → ℕ → ℕ → Call

-- the state that a call leaves
abbrev pub leaves : Call → Measures → State → State
leaves opens g x = opens_leaves g x
leaves closes g x = closes_leaves g x
leaves polls g x = polls_leaves g x
leaves ticks g x = ticks_leaves g x
leaves (sends e z) g x = sends_leaves g e z x
leaves (takes e) g x = takes_leaves g e x
leaves (fetches e) g x = fetches_leaves e x
leaves (strikes w place start mask) g x = strikes_leaves w place start mask x

-- the link after a call, and after a list of calls, refused ones too
abbrev pub step : Model → Call → Model
step l c = after l (leaves c)

abbrev pub run : Model → List Call → Model
run l [] = l
run l (c ∷ cs) = run (step l c) cs

-- ---- the account

-- of one end: blocks accepted since opening, blocks taken in since opening, how many were acknowledged to it since opening,
-- all blocks that it ever took in, and all that were fetched from it
pub record Tally : Type 0 where
  pub accepted : List Block
  pub taken : List Block
  pub acknowledged : ℕ
  pub ever : List Block
  pub fetched : List Block

-- of the primary and of the secondary
pub data Account : Type 0 where
  account : Tally → Tally → Account

abbrev pub no_tally : Tally
no_tally = record { accepted = []; taken = []; acknowledged = 0; ever = []; fetched = [] }

abbrev pub accept : Block → Tally → Tally
accept z y = record y { accepted = y.accepted ++ (z ∷ []) }

abbrev pub acknowledge : ℕ → Tally → Tally
acknowledge n y = record y { acknowledged = y.acknowledged + n }

abbrev pub take_in : Block → Tally → Tally
take_in z y = record y { taken = y.taken ++ (z ∷ []); ever = y.ever ++ (z ∷ []) }

abbrev pub fetch : Block → Tally → Tally
fetch z y = record y { fetched = y.fetched ++ (z ∷ []) }

-- the end opens: what counts since opening starts anew
abbrev pub restart : Tally → Tally
restart y = record y { accepted = []; taken = []; acknowledged = 0 }

abbrev pub at_end : End → (Tally → Tally) → Account → Account
at_end Primary f (account p s) = account (f p) s
at_end Secondary f (account p s) = account p (f s)

-- a granted send: its block is accepted
abbrev pub note_send : Result Counts LinkRefusal → End → Block → Account → Account
note_send (Err r) e z y = y
note_send (Ok c) e z y = at_end e (accept z) y

-- a granted fetch: the block that it wrote is fetched
abbrev pub note_fetch : Result Block LinkRefusal → End → Account → Account
note_fetch (Err r) e y = y
note_fetch (Ok z) e y = at_end e (fetch z) y

-- the frame that a take removes
abbrev pub front : List Entry → Option Parts
front [] = None
front (struck a ∷ es) = None
front (frame a f ∷ es) = Some f

abbrev pub removed : End → State → Option Parts
removed Primary (state one two m t u p s) = front two
removed Secondary (state one two m t u p s) = front one

abbrev pub is_sarm : Parts → Bool
is_sarm (parts I ns nr b z) = false
is_sarm (parts Rr ns nr b z) = false
is_sarm (parts Rnr ns nr b z) = false
is_sarm (parts Sarm ns nr b z) = true
is_sarm (parts Disc ns nr b z) = false
is_sarm (parts Ua ns nr b z) = false
is_sarm (parts Dm ns nr b z) = false

abbrev pub is_ua : Parts → Bool
is_ua (parts I ns nr b z) = false
is_ua (parts Rr ns nr b z) = false
is_ua (parts Rnr ns nr b z) = false
is_ua (parts Sarm ns nr b z) = false
is_ua (parts Disc ns nr b z) = false
is_ua (parts Ua ns nr b z) = true
is_ua (parts Dm ns nr b z) = false

-- the question for the primary's mode answers open
abbrev pub primary_open : State → Bool
primary_open x = is_open (mode_of x)

-- the secondary opens with each SARM that it takes, the primary with the UA that makes it open: one that it does not pass
-- over, and after which it is open
abbrev pub opening : End → Parts → Taken → State → Bool
opening Primary f a next = is_ua f && not a.passed && primary_open next
opening Secondary f a next = is_sarm f

abbrev pub restart_by : Bool → Tally → Tally
restart_by true y = restart y
restart_by false y = y

abbrev pub take_in_by : Bool → Block → Tally → Tally
take_in_by true z y = take_in z y
take_in_by false z y = y

-- a take that is not refused: blocks acknowledged, and the frame's block where the answer says taken in
abbrev pub note_taken : Parts → Taken → Bool → Tally → Tally
note_taken f a opened y = take_in_by a.taken (info_of f) (acknowledge a.acknowledged (restart_by opened y))

abbrev pub note_take : Option Parts → Result Taken LinkRefusal → End → State → Account → Account
note_take None a e next y = y
note_take (Some f) (Err r) e next y = y
note_take (Some f) (Ok a) e next y = at_end e (note_taken f a (opening e f a next)) y

-- what the account notes of a call, by the call's answer
abbrev pub notes : Call → Measures → State → Account → Account
notes opens g x y = y
notes closes g x y = y
notes polls g x y = y
notes ticks g x y = y
notes (sends e z) g x y = note_send (sends_answer g e z x) e z y
notes (takes e) g x y = note_take (removed e x) (takes_answer g e x) e (takes_leaves g e x) y
notes (fetches e) g x y = note_fetch (fetches_answer e x) e y
notes (strikes w place start mask) g x y = y

-- a link that its check refused answers every call with that refusal, so nothing is noted
abbrev pub noted_by : Option LinkRefusal → Account → Account → Account
noted_by (Some e) before after = before
noted_by None before after = after

abbrev pub noted : Model → Call → Account → Account
noted l c y = noted_by l.fault y (notes c l.measures l.now y)

-- the account of a list of calls, along the run that they make
abbrev pub account_of : Model → Account → List Call → Account
account_of l y [] = y
account_of l y (c ∷ cs) = account_of (step l c) (noted l c y) cs
