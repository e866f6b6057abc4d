-- What either end keeps besides its mode, and the small steps that its rules are made of.
use Rattle.std.specs.Prelude.{ℕ, ◌+◌, ◌-◌, ◌%◌, Bool, true, false, ◌&&◌, List, [], ◌∷◌, ◌++◌, length, drop, Some, None, Ok, Err, Option, Result, ◌==◌, nat_le, nat_lt}
use Rattle.frames.specs.declared.kind.Kind.{Kind}
use Rattle.frames.specs.declared.kind.Kind.TheVariants.{Rr, Rnr}
use Rattle.stations.specs.declared.refusal.StationRefusal.{StationRefusal}
use Rattle.stations.specs.declared.refusal.StationRefusal.TheVariants.{Mode, LongBlock, Window, FarBusy, Nothing}

-- a block is its octets
abbrev pub Block : Type 0
Block = List ℕ

-- V(S), V(A), V(R), the blocks sent and not acknowledged (oldest first), whether the far status is RNR, and the blocks
-- taken in and not fetched (oldest first)
pub record Station : Type 0 where
  pub vs : ℕ
  pub va : ℕ
  pub vr : ℕ
  pub window : List Block
  pub busy : Bool
  pub waiting : List Block

-- a station before anything has happened
abbrev pub fresh : Station
fresh = record { vs = 0; va = 0; vr = 0; window = []; busy = false; waiting = [] }

-- reset: the numbers are 0, the window is empty, the far status is RR; waiting blocks stay
abbrev pub reset : Station → Station
reset x = record { vs = 0; va = 0; vr = 0; window = []; busy = false; waiting = x.waiting }

-- how many blocks are sent and not acknowledged
abbrev pub outstanding : Station → ℕ
outstanding x = (x.vs + (8 - x.va)) % 8

-- how many of them a frame's N(R) passes
abbrev pub passed : Station → ℕ → ℕ
passed x nr = (nr + (8 - x.va)) % 8

-- N(R) may pass no more blocks than are outstanding
abbrev pub allowed : Station → ℕ → Bool
allowed x nr = nat_le (passed x nr) (outstanding x)

-- V(A) becomes N(R) modulo 8, and the blocks passed leave the window
abbrev pub acknowledge : Station → ℕ → Station
acknowledge x nr =
    record { vs = x.vs; va = nr % 8; vr = x.vr; window = drop (passed x nr) x.window; busy = x.busy; waiting = x.waiting }

-- a block is wanted where its N(S) is V(R) and fewer than 7 wait
abbrev pub wanted : Station → ℕ → Bool
wanted x ns = ns == x.vr && nat_lt (length x.waiting) 7

-- a block is taken in: it joins the queue and V(R) rises by 1 modulo 8
abbrev pub take_in : Station → Block → Station
take_in x z =
    record { vs = x.vs; va = x.va; vr = (x.vr + 1) % 8; window = x.window; busy = x.busy; waiting = x.waiting ++ (z ∷ []) }

abbrev pub far_is : Station → Bool → Station
far_is x busy = record { vs = x.vs; va = x.va; vr = x.vr; window = x.window; busy = busy; waiting = x.waiting }

-- a block is sent: it enters the window under V(S), and V(S) rises by 1 modulo 8
abbrev pub sent : Station → Block → Station
sent x z =
    record { vs = (x.vs + 1) % 8; va = x.va; vr = x.vr; window = x.window ++ (z ∷ []); busy = x.busy; waiting = x.waiting }

abbrev pub with_waiting : Station → List Block → Station
with_waiting x zs = record { vs = x.vs; va = x.va; vr = x.vr; window = x.window; busy = x.busy; waiting = zs }

-- its own status: RNR when 7 blocks wait, otherwise RR
abbrev pub status_by : Bool → Kind
status_by true = Rnr
status_by false = Rr

abbrev pub own_status : Station → Kind
own_status x = status_by (length x.waiting == 7)

-- ---- send and fetch, the same at either end

-- send looks for mode, long block, window and far busy, in that order
abbrev pub send_refusal : Bool → Bool → Bool → Bool → Option StationRefusal
send_refusal false long full busy = Some Mode
send_refusal true true full busy = Some LongBlock
send_refusal true false true busy = Some Window
send_refusal true false false true = Some FarBusy
send_refusal true false false false = None

-- an open end accepts at most 64 octets while fewer than 7 blocks are outstanding and the far status is RR
abbrev pub send_check : Bool → Station → Block → Option StationRefusal
send_check opened x z = send_refusal opened (nat_lt 64 (length z)) (nat_le 7 (outstanding x)) x.busy

-- fetch takes out the oldest waiting block
abbrev pub oldest : List Block → Result Block StationRefusal
oldest [] = Err Nothing
oldest (z ∷ zs) = Ok z

abbrev pub fetch_answer : Station → Result Block StationRefusal
fetch_answer x = oldest x.waiting

abbrev pub fetch_leaves : Station → Station
fetch_leaves x = with_waiting x (drop 1 x.waiting)
