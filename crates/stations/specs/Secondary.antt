-- The secondary's rules: what it does on each frame, by whether it is open.
use Rattle.std.specs.Prelude.{ℕ, suc, Bool, true, false, List, [], Some, None, Ok, Err, Option, Result, ◌==◌}
use Rattle.frames.specs.declared.kind.Kind.TheVariants.{I, Rr, Rnr, Sarm, Disc, Ua, Dm}
use Rattle.frames.specs.Parts.{Parts, parts}
use Rattle.lines.specs.Entries.{Entry}
use Rattle.stations.specs.declared.refusal.StationRefusal.{StationRefusal}
use Rattle.stations.specs.Station.{Block, Station, reset, sent, send_check}
use Rattle.stations.specs.Puts.{put, plain, inform, status, again, again_tries}
use Rattle.stations.specs.Rule.{Heard, hear_i, hear_s}

-- open or not, the station, its outgoing way, and what it answers: frames tried, refused with numbering, acknowledged, the block
-- taken in, and whether the frame was passed over
pub record Reply : Type 0 where
  pub opened : Bool
  pub station : Station
  pub out : List Entry
  pub tried : ℕ
  pub refused : Bool
  pub acknowledged : ℕ
  pub taken : List Block
  pub over : Bool

-- the frame is passed over
abbrev pub pass_over : Bool → Station → List Entry → Reply
pass_over u x out =
    record { opened = u; station = x; out = out; tried = 0; refused = false; acknowledged = 0; taken = []; over = true }

-- one frame is put in answer
abbrev pub answer : ℕ → Bool → Station → Parts → List Entry → Reply
answer k u x p out =
    record { opened = u; station = x; out = put k out p; tried = 1; refused = false; acknowledged = 0; taken = []; over = false }

-- a poll (RR or RNR with B 1 that is not refused) is answered by its own status with B 1, and by sending again
abbrev pub final_by : Bool → Bool → ℕ → Station → List Entry → List Entry
final_by true poll k x out = out
final_by false false k x out = out
final_by false true k x out = again k x (put k out (status x))

abbrev pub final_tries : Bool → Bool → Station → ℕ
final_tries true poll x = 0
final_tries false false x = 0
final_tries false true x = suc (again_tries x)

abbrev pub heard_block : Heard → List Entry → Reply
heard_block h out =
    record { opened = true; station = h.station; out = out; tried = 0; refused = h.refused; acknowledged = h.acknowledged; taken = h.taken; over = false }

abbrev pub heard_status : Heard → Bool → ℕ → List Entry → Reply
heard_status h poll k out =
    record {
      opened = true;
      station = h.station;
      out = final_by h.refused poll k h.station out;
      tried = final_tries h.refused poll h.station;
      refused = h.refused;
      acknowledged = h.acknowledged;
      taken = h.taken;
      over = false;
    }

-- SARM: reset, become open, put UA. DISC: when open, become closed and put UA; when closed, put DM. I, RR, RNR when open: the
-- number rule, and the answer to a poll. Any other frame is passed over.
abbrev pub secondary_hears : ℕ → Bool → Station → Parts → List Entry → Reply
secondary_hears k u x (parts Sarm ns nr b z) out = answer k true (reset x) (plain Ua) out
secondary_hears k true x (parts Disc ns nr b z) out = answer k false x (plain Ua) out
secondary_hears k false x (parts Disc ns nr b z) out = answer k false x (plain Dm) out
secondary_hears k true x (parts I ns nr b z) out = heard_block (hear_i x ns nr z) out
secondary_hears k false x (parts I ns nr b z) out = pass_over false x out
secondary_hears k true x (parts Rr ns nr b z) out = heard_status (hear_s x false nr) (b == 1) k out
secondary_hears k false x (parts Rr ns nr b z) out = pass_over false x out
secondary_hears k true x (parts Rnr ns nr b z) out = heard_status (hear_s x true nr) (b == 1) k out
secondary_hears k false x (parts Rnr ns nr b z) out = pass_over false x out
secondary_hears k u x (parts Ua ns nr b z) out = pass_over u x out
secondary_hears k u x (parts Dm ns nr b z) out = pass_over u x out

-- ---- send

-- a granted send: the block enters the window, and its I frame is put
abbrev pub send_by : Option StationRefusal → ℕ → Bool → Station → Block → List Entry → Result Reply StationRefusal
send_by (Some e) k u x z out = Err e
send_by None k u x z out = Ok (answer k u (sent x z) (inform x x.vs z) out)

abbrev pub secondary_sends : ℕ → Bool → Station → Block → List Entry → Result Reply StationRefusal
secondary_sends k u x z out = send_by (send_check u x z) k u x z out
