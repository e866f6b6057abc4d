-- What a station puts on its outgoing way; a frame that finds no room is lost.
use Rattle.std.specs.Prelude.{ℕ, zero, suc, ◌+◌, ◌-◌, ◌%◌, Bool, true, false, List, [], ◌∷◌, ◌++◌, length, Some, None, Ok, Err, Option, Result, nat_lt}
use Rattle.frames.specs.declared.kind.Kind.{Kind}
use Rattle.frames.specs.declared.kind.Kind.TheVariants.{I}
use Rattle.frames.specs.Parts.{Parts, parts}
use Rattle.lines.specs.Entries.{Entry, frame}
use Rattle.stations.specs.declared.answer.Counts.{Counts}
use Rattle.stations.specs.declared.refusal.StationRefusal.{StationRefusal}
use Rattle.stations.specs.Station.{Block, Station, own_status}

-- a way that can hold k entries, after one more frame
abbrev pub put_by : Bool → List Entry → Parts → List Entry
put_by true es p = es ++ (frame 0 p ∷ [])
put_by false es p = es

abbrev pub put : ℕ → List Entry → Parts → List Entry
put k es p = put_by (nat_lt (length es) k) es p

-- a frame of a kind without numbers
abbrev pub plain : Kind → Parts
plain c = parts c 0 0 0 []

-- its own status as a poll or a final: B is 1, N(R) is V(R)
abbrev pub status : Station → Parts
status x = parts (own_status x) 0 x.vr 1 []

-- a block as an I frame: B is 0, N(R) is V(R)
abbrev pub inform : Station → ℕ → Block → Parts
inform x ns z = parts I ns x.vr 0 z

-- sending again: every outstanding block, oldest first, under its old N(S)
abbrev pub again_from : ℕ → Station → ℕ → List Block → List Entry → List Entry
again_from k x ns [] es = es
again_from k x ns (z ∷ zs) es = again_from k x ((ns + 1) % 8) zs (put k es (inform x ns z))

-- it is skipped at far status RNR
abbrev pub again_by : Bool → ℕ → Station → List Entry → List Entry
again_by true k x es = es
again_by false k x es = again_from k x x.va x.window es

abbrev pub again : ℕ → Station → List Entry → List Entry
again k x es = again_by x.busy k x es

-- how many frames sending again tries to put
abbrev pub tries_by : Bool → List Block → ℕ
tries_by true zs = 0
tries_by false zs = length zs

abbrev pub again_tries : Station → ℕ
again_tries x = tries_by x.busy x.window

-- nothing tried: nothing put or lost
abbrev pub no_counts : Counts
no_counts = record { put = 0; lost = 0 }

-- of so many frames tried, those by which the way grew were put, and the others lost
abbrev pub counts : ℕ → List Entry → List Entry → Counts
counts zero before after = no_counts
counts (suc n) before after =
    record { put = length after - length before; lost = suc n - (length after - length before) }

-- a send, by its refusal: the way then, and what is answered
abbrev pub sent_entries : Option StationRefusal → ℕ → Station → Block → List Entry → List Entry
sent_entries (Some e) k x z es = es
sent_entries None k x z es = put k es (inform x x.vs z)

abbrev pub sent_counts : Option StationRefusal → List Entry → List Entry → Result Counts StationRefusal
sent_counts (Some e) before after = Err e
sent_counts None before after = Ok (counts 1 before after)
