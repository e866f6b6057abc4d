-- A drain worked out from the definitions, on the link of the worked histories.
use Rattle.std.specs.Prelude.{◌≡◌, List, [], ◌∷◌, ◌++◌, map, replicate, true, Ok, Err}
use Rattle.frames.specs.declared.way.Way.TheVariants.{One}
use Rattle.stations.specs.declared.refusal.StationRefusal.TheVariants.{FarBusy}
use Rattle.stations.specs.Station.{Block}
use Rattle.link.specs.declared.end.End.TheVariants.{Primary, Secondary}
use Rattle.link.specs.declared.refusal.LinkRefusal.TheVariants.{Station}
use Rattle.link.specs.Refusals.{number_of}
use Rattle.link.specs.Calls.{sends_answer, asked}
use Rattle.link.specs.History.{Call, takes, strikes, run, Account, account, no_tally, account_of}
use Rattle.link.specs.Facts.{new_link, block, opened_and_sent}
use Rattle.link.specs.Drain.{drain_answer}
use Rattle.link.specs.Acts.{single, drains, led}

-- of seven blocks just sent the first is struck, and the secondary takes seven times
abbrev pub first_struck : List Call
first_struck = opened_and_sent 7 ++ (strikes One 0 0 1 ∷ replicate 7 (takes Secondary))

-- the blocks that the secondary has taken in since it opened
abbrev pub secondary_taken : Account → List Block
secondary_taken (account p s) = s.taken

pub record WorkedDrain : Type 0 where
  -- seven takes take in nothing, since the first block is missing; a drain then has all seven across, and with seven
  -- waiting the next send is refused with 21
  pub none_in : secondary_taken (account_of new_link (account no_tally no_tally) first_struck) ≡ []
  pub drained :
      drain_answer (run new_link first_struck)
      ≡ Ok (record { counts = record { put = 11; lost = 0 }; ticks = 0; takes = 11; settled = true })
  pub far_busy :
      asked (led new_link (map single first_struck ++ drains ∷ [])) (λ g x. sends_answer g Primary block x) ≡ Err (Station FarBusy)
  pub far_busy_number : number_of (Station FarBusy) ≡ 21
