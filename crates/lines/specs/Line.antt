-- What each call on a line answers, and what the line then means.
use Rattle.std.specs.Prelude.{ℕ, zero, suc, ◌+◌, ◌*◌, Bool, true, false, cond, ◌&&◌, List, [], ◌∷◌, ◌++◌, length, drop, is_ok, Some, None, Ok, Err, Option, Result, ◌==◌, nat_le, nat_lt}
use Rattle.frames.specs.declared.way.Way.{Way}
use Rattle.frames.specs.declared.refusal.FrameRefusal.{FrameRefusal}
use Rattle.frames.specs.declared.frame_buf.FrameBuf.{FrameBuf}
use Rattle.frames.specs.Parts.{Parts, info_of}
use Rattle.frames.specs.Blocks.{parts_in}
use Rattle.frames.specs.Writer.{admit_answer}
use Rattle.lines.specs.declared.refusal.LineRefusal.{LineRefusal}
use Rattle.lines.specs.declared.refusal.LineRefusal.TheVariants.{Frame, Full, Idle, Damaged, NoEntry, Struck, NoMask, OffFrame, Measure}
use Rattle.lines.specs.Entries.{Entry, struck, frame, Lists, on, with_way, at}

-- ---- put

-- what writing refuses is refused, then a full way, and nothing else
abbrev pub put_by : Result ℕ FrameRefusal → Bool → Result (Unit {0}) LineRefusal
put_by (Err e) room = Err (Frame e)
put_by (Ok c) true = Ok tt
put_by (Ok c) false = Err Full

abbrev pub put_answer : Lists → Way → Parts → Result (Unit {0}) LineRefusal
put_answer l w p = put_by (admit_answer w p) (nat_lt (length (on w l)) l.capacity)

-- the frame joins the end with age 0; a refusal leaves the line as it was
abbrev pub put_leaves : Lists → Way → Parts → Lists
put_leaves l w p = cond (is_ok (put_answer l w p)) (with_way w (on w l ++ frame 0 p ∷ []) l) l

-- ---- take

abbrev pub oldest : List Entry → Result Parts LineRefusal
oldest [] = Err Idle
oldest (struck a ∷ es) = Err Damaged
oldest (frame a p ∷ es) = Ok p

abbrev pub take_answer : Lists → Way → Result Parts LineRefusal
take_answer l w = oldest (on w l)

-- the oldest entry leaves, struck or not
abbrev pub take_leaves : Lists → Way → Lists
take_leaves l w = with_way w (drop 1 (on w l)) l

-- the answer of the code by its parts
abbrev pub told : Result FrameBuf LineRefusal → Result Parts LineRefusal
told (Ok f) = Ok (parts_in f)
told (Err e) = Err e

-- ---- strike

-- a frame's bits: address, control octet and two check octets besides the information
abbrev pub bits : Parts → ℕ
bits p = 8 * (4 + length (info_of p))

-- no mask and off frame, for a frame that stands
abbrev pub burst_by : Bool → Bool → Result (Unit {0}) LineRefusal
burst_by true within = Err NoMask
burst_by false true = Ok tt
burst_by false false = Err OffFrame

abbrev pub strike_by : Option Entry → ℕ → ℕ → Result (Unit {0}) LineRefusal
strike_by None start mask = Err NoEntry
strike_by (Some (struck a)) start mask = Err Struck
strike_by (Some (frame a p)) start mask = burst_by (mask == 0) (nat_le (start + 16) (bits p))

abbrev pub strike_answer : Lists → Way → ℕ → ℕ → ℕ → Result (Unit {0}) LineRefusal
strike_answer l w place start mask = strike_by (at (on w l) place) start mask

abbrev pub hit : Entry → Entry
hit (struck a) = struck a
hit (frame a p) = struck a

-- the entry at a place becomes struck; its age and all other entries stay
abbrev pub hit_at : ℕ → List Entry → List Entry
hit_at place [] = []
hit_at zero (e ∷ es) = hit e ∷ es
hit_at (suc place) (e ∷ es) = e ∷ hit_at place es

abbrev pub strike_leaves : Lists → Way → ℕ → ℕ → ℕ → Lists
strike_leaves l w place start mask =
    cond (is_ok (strike_answer l w place start mask)) (with_way w (hit_at place (on w l)) l) l

-- ---- tick

abbrev pub keep_by : Bool → Entry → List Entry → List Entry
keep_by true e es = e ∷ es
keep_by false e es = es

-- every age rises by 1, then entries older than D leave
abbrev pub older : ℕ → List Entry → List Entry
older d [] = []
older d (struck a ∷ es) = keep_by (nat_le (a + 1) d) (struck (a + 1)) (older d es)
older d (frame a p ∷ es) = keep_by (nat_le (a + 1) d) (frame (a + 1) p) (older d es)

abbrev pub tick_leaves : Lists → Lists
tick_leaves l =
    record { one = older l.lifetime l.one; two = older l.lifetime l.two; capacity = l.capacity; lifetime = l.lifetime }

-- ---- check and make

-- K is 8 to 64, D is 1 to 1,000, and the memory of either way has room for K entries
abbrev pub measured : ℕ → ℕ → ℕ → ℕ → Bool
measured k d one two = nat_le 8 k && nat_le k 64 && nat_le 1 d && nat_le d 1000 && nat_le k one && nat_le k two

abbrev pub check_answer : ℕ → ℕ → ℕ → ℕ → Result (Unit {0}) LineRefusal
check_answer k d one two = cond (measured k d one two) (Ok tt) (Err Measure)

-- the line of K = 0 and D = 1, which can hold nothing
abbrev pub dead : Lists
dead = record { one = []; two = []; capacity = 0; lifetime = 1 }

-- a new line is empty; after a refusal it is dead
abbrev pub made : ℕ → ℕ → ℕ → ℕ → Lists
made k d one two = cond (measured k d one two) (record { one = []; two = []; capacity = k; lifetime = d }) dead
