-- The primary's rules: what it does on each frame by its mode, and what it puts when its timer is out.
use Rattle.std.specs.Prelude.{ℕ, ◌+◌, Bool, true, false, List, [], Some, None, Ok, Err, Option, Result, ◌==◌, nat_le}
use Rattle.frames.specs.declared.kind.Kind.TheVariants.{I, Rr, Rnr, Sarm, Disc, Ua, Dm}
use Rattle.frames.specs.Parts.{Parts, parts}
use Rattle.lines.specs.Entries.{Entry}
use Rattle.stations.specs.declared.mode.Mode.{Mode}
use Rattle.stations.specs.declared.mode.Mode.TheVariants.{Closed, Opening, Open, Closing}
use Rattle.stations.specs.declared.refusal.StationRefusal.{StationRefusal}
use Rattle.stations.specs.declared.refusal.StationRefusal.TheVariants as refused
use Rattle.stations.specs.Station.{Block, Station, reset, sent, send_check}
use Rattle.stations.specs.Puts.{put, plain, inform, status, again, again_tries}
use Rattle.stations.specs.Rule.{Heard, hear_i, hear_s}

-- the timer: off, or the ticks since the request went out that the primary waits for an answer to
abbrev pub Timer : Type 0
Timer = Option ℕ

-- mode, timer, station, its outgoing way, and what it answers: frames tried, refused with numbering, acknowledged, the block
-- taken in, and whether the frame was passed over
pub record Move : Type 0 where
  pub mode : Mode
  pub timer : Timer
  pub station : Station
  pub out : List Entry
  pub tried : ℕ
  pub refused : Bool
  pub acknowledged : ℕ
  pub taken : List Block
  pub over : Bool

-- the frame is passed over
abbrev pub pass_over : Mode → Timer → Station → List Entry → Move
pass_over m t x out =
    record { mode = m; timer = t; station = x; out = out; tried = 0; refused = false; acknowledged = 0; taken = []; over = true }

-- the mode changes and the timer is off
abbrev pub become : Mode → Station → List Entry → Move
become m x out =
    record { mode = m; timer = None; station = x; out = out; tried = 0; refused = false; acknowledged = 0; taken = []; over = false }

abbrev pub heard_block : Heard → Timer → List Entry → Move
heard_block h t out =
    record { mode = Open; timer = t; station = h.station; out = out; tried = 0; refused = h.refused; acknowledged = h.acknowledged; taken = h.taken; over = false }

-- a final (RR or RNR with B 1, not refused, while a poll is outstanding) turns the timer off, and outstanding blocks are sent again
abbrev pub timer_by : Bool → Bool → Timer → Timer
timer_by true final t = t
timer_by false false t = t
timer_by false true t = None

abbrev pub resend_by : Bool → Bool → Timer → ℕ → Station → List Entry → List Entry
resend_by true final t k x out = out
resend_by false false t k x out = out
resend_by false true None k x out = out
resend_by false true (Some n) k x out = again k x out

abbrev pub resend_tries : Bool → Bool → Timer → Station → ℕ
resend_tries true final t x = 0
resend_tries false false t x = 0
resend_tries false true None x = 0
resend_tries false true (Some n) x = again_tries x

abbrev pub heard_status : Heard → Bool → Timer → ℕ → List Entry → Move
heard_status h final t k out =
    record {
      mode = Open;
      timer = timer_by h.refused final t;
      station = h.station;
      out = resend_by h.refused final t k h.station out;
      tried = resend_tries h.refused final t h.station;
      refused = h.refused;
      acknowledged = h.acknowledged;
      taken = h.taken;
      over = false;
    }

-- UA when opening: reset, become open, timer off. UA or DM when closing: become closed, timer off. I, RR, RNR when open: the
-- number rule, and sending again on a final. Any other frame is passed over.
abbrev pub primary_hears : ℕ → Mode → Timer → Station → Parts → List Entry → Move
primary_hears k Closed t x (parts Ua ns nr b z) out = pass_over Closed t x out
primary_hears k Opening t x (parts Ua ns nr b z) out = become Open (reset x) out
primary_hears k Open t x (parts Ua ns nr b z) out = pass_over Open t x out
primary_hears k Closing t x (parts Ua ns nr b z) out = become Closed x out
primary_hears k Closed t x (parts Dm ns nr b z) out = pass_over Closed t x out
primary_hears k Opening t x (parts Dm ns nr b z) out = pass_over Opening t x out
primary_hears k Open t x (parts Dm ns nr b z) out = pass_over Open t x out
primary_hears k Closing t x (parts Dm ns nr b z) out = become Closed x out
primary_hears k Closed t x (parts I ns nr b z) out = pass_over Closed t x out
primary_hears k Opening t x (parts I ns nr b z) out = pass_over Opening t x out
primary_hears k Open t x (parts I ns nr b z) out = heard_block (hear_i x ns nr z) t out
primary_hears k Closing t x (parts I ns nr b z) out = pass_over Closing t x out
primary_hears k Closed t x (parts Rr ns nr b z) out = pass_over Closed t x out
primary_hears k Opening t x (parts Rr ns nr b z) out = pass_over Opening t x out
primary_hears k Open t x (parts Rr ns nr b z) out = heard_status (hear_s x false nr) (b == 1) t k out
primary_hears k Closing t x (parts Rr ns nr b z) out = pass_over Closing t x out
primary_hears k Closed t x (parts Rnr ns nr b z) out = pass_over Closed t x out
primary_hears k Opening t x (parts Rnr ns nr b z) out = pass_over Opening t x out
primary_hears k Open t x (parts Rnr ns nr b z) out = heard_status (hear_s x true nr) (b == 1) t k out
primary_hears k Closing t x (parts Rnr ns nr b z) out = pass_over Closing t x out
primary_hears k m t x (parts Sarm ns nr b z) out = pass_over m t x out
primary_hears k m t x (parts Disc ns nr b z) out = pass_over m t x out

-- what the primary asks when its timer is out: SARM (opening), DISC (closing) or a poll (open)
abbrev pub due : Mode → Station → Parts
due Closed x = status x
due Opening x = plain Sarm
due Open x = status x
due Closing x = plain Disc

-- one frame is put, and the timer set
abbrev pub ask : ℕ → Mode → Timer → Station → Parts → List Entry → Move
ask k m t x p out =
    record { mode = m; timer = t; station = x; out = put k out p; tried = 1; refused = false; acknowledged = 0; taken = []; over = false }

-- a running timer rises by 1; at limit the frame that is due is put, and the timer is 0
abbrev pub tick_by : Bool → ℕ → Mode → ℕ → Station → List Entry → Move
tick_by true k m n x out = ask k m (Some 0) x (due m x) out
tick_by false k m n x out =
    record { mode = m; timer = Some (n + 1); station = x; out = out; tried = 0; refused = false; acknowledged = 0; taken = []; over = false }

abbrev pub primary_ticks : ℕ → ℕ → Mode → Timer → Station → List Entry → Move
primary_ticks k limit m None x out =
    record { mode = m; timer = None; station = x; out = out; tried = 0; refused = false; acknowledged = 0; taken = []; over = false }
primary_ticks k limit m (Some n) x out = tick_by (nat_le limit (n + 1)) k m n x out

-- ---- open, close, poll, send

-- open: the primary is closed; it becomes opening, puts SARM, timer 0
abbrev pub primary_opens : ℕ → Mode → Timer → Station → List Entry → Result Move StationRefusal
primary_opens k Closed t x out = Ok (ask k Opening (Some 0) x (plain Sarm) out)
primary_opens k Opening t x out = Err refused.Mode
primary_opens k Open t x out = Err refused.Mode
primary_opens k Closing t x out = Err refused.Mode

-- close: the primary is open with no poll outstanding; it becomes closing, puts DISC, timer 0
abbrev pub primary_closes : ℕ → Mode → Timer → Station → List Entry → Result Move StationRefusal
primary_closes k Closed t x out = Err refused.Mode
primary_closes k Opening t x out = Err refused.Mode
primary_closes k Open None x out = Ok (ask k Closing (Some 0) x (plain Disc) out)
primary_closes k Open (Some n) x out = Err refused.Polling
primary_closes k Closing t x out = Err refused.Mode

-- open with no poll outstanding: what close and poll look for
abbrev pub idle_check : Mode → Timer → Result (Unit {0}) StationRefusal
idle_check Closed t = Err refused.Mode
idle_check Opening t = Err refused.Mode
idle_check Open None = Ok tt
idle_check Open (Some n) = Err refused.Polling
idle_check Closing t = Err refused.Mode

-- poll: the primary is open with no poll outstanding; it puts its own status with B 1, timer 0
abbrev pub primary_polls : ℕ → Mode → Timer → Station → List Entry → Result Move StationRefusal
primary_polls k Closed t x out = Err refused.Mode
primary_polls k Opening t x out = Err refused.Mode
primary_polls k Open None x out = Ok (ask k Open (Some 0) x (status x) out)
primary_polls k Open (Some n) x out = Err refused.Polling
primary_polls k Closing t x out = Err refused.Mode

abbrev pub is_open : Mode → Bool
is_open Closed = false
is_open Opening = false
is_open Open = true
is_open Closing = false

-- a granted send: the block enters the window, and its I frame is put; the timer stays
abbrev pub send_by : Option StationRefusal → ℕ → Mode → Timer → Station → Block → List Entry → Result Move StationRefusal
send_by (Some e) k m t x z out = Err e
send_by None k m t x z out = Ok (ask k m t (sent x z) (inform x x.vs z) out)

abbrev pub primary_sends : ℕ → Mode → Timer → Station → Block → List Entry → Result Move StationRefusal
primary_sends k m t x z out = send_by (send_check (is_open m) x z) k m t x z out
