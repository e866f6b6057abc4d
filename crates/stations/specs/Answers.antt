-- What the number rule and a frame are answered by.
use Rattle.std.specs.Prelude.{ℕ, Bool, true, false, cond, List, [], ◌∷◌, ◌++◌, length, drop, Some, None, Ok, Err, Option, Result, ◌≤◌}
use Rattle.stations.specs.declared.answer.Counts.{Counts}
use Rattle.stations.specs.declared.answer.Heard.{Heard as Answer}
use Rattle.stations.specs.declared.answer.Taken.{Taken}
use Rattle.stations.specs.declared.number.Number.{Number}
use Rattle.stations.specs.declared.refusal.StationRefusal.{StationRefusal}
use Rattle.stations.specs.declared.refusal.StationRefusal.TheVariants.{Numbering}
use Rattle.stations.specs.Station.{Block, Station, passed, allowed, acknowledge, sent}
use Rattle.stations.specs.Puts.{no_counts}
use Rattle.stations.specs.Rule.{Heard}

-- N(R) is allowed: how many blocks it passes
abbrev pub passing : Station → ℕ → Result ℕ StationRefusal
passing x nr = cond (allowed x nr) (Ok (passed x nr)) (Err Numbering)

abbrev pub after_number : Station → ℕ → Station
after_number x nr = cond (allowed x nr) (acknowledge x nr) x

-- was a block taken in?
abbrev pub some : List Block → Bool
some [] = false
some (z ∷ zs) = true

abbrev pub rule_by : Bool → ℕ → Bool → Result Answer StationRefusal
rule_by true n taken = Err Numbering
rule_by false n taken = Ok (record { acknowledged = n; taken = taken })

-- numbering, or how many blocks were acknowledged and whether one was taken in
abbrev pub rule_answer : Heard → Result Answer StationRefusal
rule_answer h = rule_by h.refused h.acknowledged (some h.taken)

-- what a frame made, where the number rule has no part in it
abbrev pub passed_over : Taken
passed_over = record { counts = no_counts; acknowledged = 0; taken = false; passed = true }

abbrev pub heeded_with : Counts → Taken
heeded_with c = record { counts = c; acknowledged = 0; taken = false; passed = false }

-- what a frame made by the number rule, with the frames that were put
abbrev pub heard_with : Answer → Counts → Taken
heard_with h c = record { counts = c; acknowledged = h.acknowledged; taken = h.taken; passed = false }

-- a send that is granted answers the N(S) of its block
abbrev pub accepted : Result Number StationRefusal → Result ℕ StationRefusal
accepted (Err e) = Err e
accepted (Ok n) = Ok n.value

abbrev pub accept_by : Option StationRefusal → Station → Result ℕ StationRefusal
accept_by (Some e) x = Err e
accept_by None x = Ok x.vs

abbrev pub accept_leaves : Option StationRefusal → Station → Block → Station
accept_leaves (Some e) x z = x
accept_leaves None x z = sent x z

-- a fetch that is granted answers the block's length, and writes the block to the front of the place
abbrev pub fetch_length : Result Block StationRefusal → Result ℕ StationRefusal
fetch_length (Err e) = Err e
fetch_length (Ok z) = Ok (length z)

abbrev pub fetch_writes : Result Block StationRefusal → List ℕ → List ℕ
fetch_writes (Err e) place = place
fetch_writes (Ok z) place = z ++ drop (length z) place

-- at most n frames put, and at most n lost
pub record AtMost (n : ℕ) (c : Counts) : Type 0 where
  pub put : c.put ≤ n
  pub lost : c.lost ≤ n

-- a frame is answered by at most 8: a final and 7 blocks
abbrev pub FewFrames : Counts → Type 0
FewFrames = AtMost 8

abbrev pub FewTaken : Result Taken StationRefusal → Type 0
FewTaken (Ok a) = FewFrames a.counts
FewTaken (Err e) = Unit {0}
