-- The number rule: what a station makes of the numbers, the status and the block of a frame.
use Rattle.std.specs.Prelude.{ℕ, Bool, true, false, List, [], ◌∷◌}
use Rattle.stations.specs.Station.{Block, Station, passed, allowed, acknowledge, wanted, take_in, far_is}

-- whether the frame is refused with numbering, the station then, how many blocks were acknowledged, and the block taken in
pub record Heard : Type 0 where
  pub refused : Bool
  pub station : Station
  pub acknowledged : ℕ
  pub taken : List Block

-- a refused frame leaves the station unaltered
abbrev pub refused_by : Station → Heard
refused_by x = record { refused = true; station = x; acknowledged = 0; taken = [] }

-- an I frame: is its N(R) allowed, and its block wanted?
abbrev pub heard_i : Bool → Bool → Station → ℕ → Block → Heard
heard_i false w x nr z = refused_by x
heard_i true false x nr z = record { refused = false; station = acknowledge x nr; acknowledged = passed x nr; taken = [] }
heard_i true true x nr z =
    record { refused = false; station = take_in (acknowledge x nr) z; acknowledged = passed x nr; taken = z ∷ [] }

abbrev pub hear_i : Station → ℕ → ℕ → Block → Heard
hear_i x ns nr z = heard_i (allowed x nr) (wanted x ns) x nr z

-- RR or RNR, which becomes the far status
abbrev pub heard_s : Bool → Station → Bool → ℕ → Heard
heard_s false x busy nr = refused_by x
heard_s true x busy nr =
    record { refused = false; station = far_is (acknowledge x nr) busy; acknowledged = passed x nr; taken = [] }

abbrev pub hear_s : Station → Bool → ℕ → Heard
hear_s x busy nr = heard_s (allowed x nr) x busy nr
