-- The calls of the two stations over a line: the primary puts on way 1, the secondary on way 2.
use Rattle.std.specs.Prelude.{ℕ, Bool, true, false, Ok, Err, Result, ◌==◌}
use Rattle.frames.specs.declared.way.Way.TheVariants.{One, Two}
use Rattle.frames.specs.Parts.{Parts}
use Rattle.lines.specs.Entries.{Lists, with_way}
use Rattle.stations.specs.declared.answer.Counts.{Counts}
use Rattle.stations.specs.declared.answer.Taken.{Taken}
use Rattle.stations.specs.declared.mode.Mode.{Mode}
use Rattle.stations.specs.declared.refusal.StationRefusal.{StationRefusal}
use Rattle.stations.specs.declared.refusal.StationRefusal.TheVariants.{Numbering}
use Rattle.stations.specs.declared.secondary.SecondaryMode.{SecondaryMode}
use Rattle.stations.specs.Station.{Block}
use Rattle.stations.specs.Puts.{counts}
use Rattle.stations.specs.Rule.{hear_s}
use Rattle.stations.specs.Answers.{some}
use Rattle.stations.specs.Primary.{Move, heard_status, primary_hears, primary_ticks, primary_opens, primary_closes, primary_polls, primary_sends}
use Rattle.stations.specs.Secondary as answered
use Rattle.stations.specs.Secondary.{Reply, secondary_hears, secondary_sends}
use Rattle.stations.specs.Views.{PrimaryView, SecondaryView, opened_by}

-- numbering, or what the station made of the frame
abbrev pub taken_by : Bool → Counts → ℕ → Bool → Bool → Result Taken StationRefusal
taken_by true c n taken over = Err Numbering
taken_by false c n taken over = Ok (record { counts = c; acknowledged = n; taken = taken; passed = over })

-- ---- the primary

abbrev pub opens : PrimaryView → Lists → Result Move StationRefusal
opens v l = primary_opens l.capacity v.mode v.timer v.station l.one

abbrev pub closes : PrimaryView → Lists → Result Move StationRefusal
closes v l = primary_closes l.capacity v.mode v.timer v.station l.one

abbrev pub polls : PrimaryView → Lists → Result Move StationRefusal
polls v l = primary_polls l.capacity v.mode v.timer v.station l.one

abbrev pub sends : PrimaryView → Block → Lists → Result Move StationRefusal
sends v z l = primary_sends l.capacity v.mode v.timer v.station z l.one

abbrev pub ticks : PrimaryView → ℕ → Lists → Move
ticks v limit l = primary_ticks l.capacity limit v.mode v.timer v.station l.one

abbrev pub hears : PrimaryView → Parts → Lists → Move
hears v p l = primary_hears l.capacity v.mode v.timer v.station p l.one

-- RR or RNR at an open primary
abbrev pub status_hears : PrimaryView → Bool → ℕ → ℕ → Lists → Move
status_hears v busy nr b l = heard_status (hear_s v.station busy nr) (b == 1) v.timer l.capacity l.one

abbrev pub status_move : Mode → Move → PrimaryView
status_move m r = record { mode = m; timer = r.timer; station = r.station }

-- what a move leaves of the primary and of the line, and what is answered
abbrev pub primary_after : Result Move StationRefusal → PrimaryView → PrimaryView
primary_after (Err e) v = v
primary_after (Ok r) v = record { mode = r.mode; timer = r.timer; station = r.station }

abbrev pub one_after : Result Move StationRefusal → Lists → Lists
one_after (Err e) l = l
one_after (Ok r) l = with_way One r.out l

abbrev pub move_counts : Result Move StationRefusal → Lists → Result Counts StationRefusal
move_counts (Err e) l = Err e
move_counts (Ok r) l = Ok (counts r.tried l.one r.out)

abbrev pub move_answer : Move → Lists → Result Taken StationRefusal
move_answer r l = taken_by r.refused (counts r.tried l.one r.out) r.acknowledged (some r.taken) r.over

-- ---- the secondary

abbrev pub replies : SecondaryView → Parts → Lists → Reply
replies v p l = secondary_hears l.capacity v.opened v.station p l.two

abbrev pub returns : SecondaryView → Block → Lists → Result Reply StationRefusal
returns v z l = secondary_sends l.capacity v.opened v.station z l.two

-- RR or RNR at an open secondary
abbrev pub status_replies : SecondaryView → Bool → ℕ → ℕ → Lists → Reply
status_replies v busy nr b l = answered.heard_status (hear_s v.station busy nr) (b == 1) l.capacity l.two

abbrev pub status_reply : SecondaryMode → Reply → SecondaryView
status_reply m r = record { opened = opened_by m; station = r.station }

abbrev pub secondary_after : Result Reply StationRefusal → SecondaryView → SecondaryView
secondary_after (Err e) v = v
secondary_after (Ok r) v = record { opened = r.opened; station = r.station }

abbrev pub two_after : Result Reply StationRefusal → Lists → Lists
two_after (Err e) l = l
two_after (Ok r) l = with_way Two r.out l

abbrev pub reply_counts : Result Reply StationRefusal → Lists → Result Counts StationRefusal
reply_counts (Err e) l = Err e
reply_counts (Ok r) l = Ok (counts r.tried l.two r.out)

abbrev pub reply_answer : Reply → Lists → Result Taken StationRefusal
reply_answer r l = taken_by r.refused (counts r.tried l.two r.out) r.acknowledged (some r.taken) r.over
