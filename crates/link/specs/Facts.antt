-- Histories worked out from the definitions: a line of K = 8 and D = 2, and a link over it with T = 5.
use Rattle.std.specs.Prelude.{◌≡◌, ℕ, List, [], ◌∷◌, ◌++◌, replicate, Ok, Err}
use Rattle.frames.specs.declared.way.Way.TheVariants.{One}
use Rattle.frames.specs.declared.kind.Kind.TheVariants.{I, Sarm}
use Rattle.frames.specs.Parts.{parts}
use Rattle.lines.specs.Entries.{Entry, struck, frame, Lists}
use Rattle.stations.specs.declared.refusal.StationRefusal.TheVariants.{Window}
use Rattle.stations.specs.Station.{Block}
use Rattle.stations.specs.Puts.{plain}
use Rattle.link.specs.declared.end.End.TheVariants.{Primary, Secondary}
use Rattle.link.specs.declared.refusal.LinkRefusal.TheVariants.{Timer, Station}
use Rattle.link.specs.Refusals.{number_of}
use Rattle.link.specs.State.{State, state, Model, check_answer, made}
use Rattle.link.specs.Calls.{sends_answer, asked}
use Rattle.link.specs.History.{Call, opens, polls, ticks, sends, takes, fetches, strikes, run, Account, account, no_tally, account_of}

abbrev pub empty_line : Lists
empty_line = record { one = []; two = []; capacity = 8; lifetime = 2 }

abbrev pub new_link : Model
new_link = made empty_line 5

abbrev pub block : Block
block = 42 ∷ []

-- way 1 after a list of calls on a new link
abbrev pub way_one : State → List Entry
way_one (state one two m t u p s) = one

abbrev pub way_one_after : List Call → List Entry
way_one_after calls = way_one (run new_link calls).now

-- the blocks that the primary has then accepted since it opened
abbrev pub primary_accepted : Account → List Block
primary_accepted (account p s) = p.accepted

abbrev pub accepted_after : List Call → List Block
accepted_after calls =
    primary_accepted (account_of new_link (account no_tally no_tally) calls)

-- the link opens, and its SARM is struck
abbrev pub struck_opening : List Call
struck_opening = opens ∷ strikes One 0 0 1 ∷ []

-- it opens, and the primary sends so many blocks
abbrev pub opened_and_sent : ℕ → List Call
opened_and_sent n = opens ∷ takes Secondary ∷ takes Primary ∷ replicate n (sends Primary block)

-- seven blocks are taken in, one is fetched, a poll brings the acknowledgement, and two more are sent
abbrev pub nine_sent : List Call
nine_sent =
    opened_and_sent 7
    ++ (polls ∷ replicate 7 (takes Secondary))
    ++ (fetches Secondary ∷ takes Secondary ∷ takes Primary ∷ replicate 2 (sends Primary block))

pub record WorkedHistories : Type 0 where
  -- with D = 2, T = 4 is too short, which is refused with 16, and T = 5 is enough
  pub too_short_number : number_of Timer ≡ 16
  pub too_short : check_answer empty_line 4 ≡ Err Timer
  pub enough : check_answer empty_line 5 ≡ Ok tt
  -- a lost SARM: it is struck; four ticks on, way 1 is empty; the fifth puts a new one
  pub lost : way_one_after struck_opening ≡ struck 0 ∷ []
  pub waits : way_one_after (struck_opening ++ replicate 4 ticks) ≡ []
  pub asks_again : way_one_after (struck_opening ++ replicate 5 ticks) ≡ frame 0 (plain Sarm) ∷ []
  -- seven blocks fill the window, and an eighth is refused with 20
  pub seven : accepted_after (opened_and_sent 7) ≡ replicate 7 block
  pub eighth : asked (run new_link (opened_and_sent 7)) (λ g x. sends_answer g Primary block x) ≡ Err (Station Window)
  pub eighth_number : number_of (Station Window) ≡ 20
  -- a connection's eighth block has N(S) 7, and its ninth N(S) 0
  pub nine : accepted_after nine_sent ≡ replicate 9 block
  pub ninth : way_one_after nine_sent ≡ frame 0 (parts I 7 0 0 block) ∷ frame 0 (parts I 0 0 0 block) ∷ []
