-- What a take answers and notes on a link with the invariant: no refusal of the station, and what the frame told.
use Rattle.std.proofs.Common.{◌≡◌, ℕ, Bool, true, false, [], ◌∷◌, ◌++◌, Some, Ok, Err, Result, sym, ap, ◌∙◌, subst, append_assoc, add-zero}
use Rattle.frames.specs.Parts.{Parts}
use Rattle.stations.specs.declared.answer.Counts.{Counts}
use Rattle.stations.specs.declared.answer.Taken.{Taken}
use Rattle.stations.specs.Station.{Block, Station}
use Rattle.stations.specs.Answers.{some}
use Rattle.stations.specs.Calls.{taken_by}
use Rattle.stations.specs.Rule.{Heard, heard_i, heard_s}
use Rattle.link.specs.declared.end.End.{End}
use Rattle.link.specs.declared.refusal.LinkRefusal.{LinkRefusal}
use Rattle.link.specs.declared.refusal.LinkRefusal.TheVariants.{Line, Timer, InUse, Station as ByStation}
use Rattle.link.specs.State.{Measures, State}
use Rattle.link.specs.Calls.{passed_on, takes_answer, takes_leaves}
use Rattle.link.specs.History.{takes, Tally, Account, acknowledge, at_end, opening, note_taken, note_take, removed, notes}
use Rattle.link.specs.Promise.{Whole}
use Rattle.link.proofs.Ends.{told}
use Rattle.link.proofs.Phases.{Good}

-- not refused by a station
abbrev pub Unrefused : Result Taken LinkRefusal → Type 0
Unrefused (Ok a) = Unit {0}
Unrefused (Err (Line e)) = Unit {0}
Unrefused (Err Timer) = Unit {0}
Unrefused (Err InUse) = Unit {0}
Unrefused (Err (ByStation e)) = ⊥

-- the answer of a take, and the invariant after it
pub record Taking (g : Measures) (e : End) (x : State) (y : Account) : Type 0 where
  pub unrefused : Unrefused (takes_answer g e x)
  pub after : Good g (takes_leaves g e x) (notes (takes e) g x y)

pub took : {g : Measures} {e : End} {x : State} {y : Account} →
    Unrefused (takes_answer g e x) → Good g (takes_leaves g e x) (notes (takes e) g x y) → Taking g e x y
took a h = record { unrefused = a; after = h }

-- what is answered of a frame that was heard
abbrev answered : Counts → Heard → Taken
answered c h = record { counts = c; acknowledged = h.acknowledged; taken = some h.taken; passed = false }

abbrev answered_by : Bool → Counts → Heard → Result Taken LinkRefusal
answered_by r c h = passed_on (taken_by r c h.acknowledged (some h.taken) false)

abbrev noted : End → Parts → Taken → State → Account → Account
noted e f a next y = at_end e (note_taken f a (opening e f a next)) y

-- a take of a frame that the number rule does not refuse
granted : (g : Measures) (e : End) (x : State) (c : Counts) (h : Heard) →
    takes_answer g e x ≡ answered_by h.refused c h → h.refused ≡ false → takes_answer g e x ≡ Ok (answered c h)
granted g e x c h answer ok = answer ∙ ap (λ r. answered_by r c h) ok

-- what is noted of it
pub noted_heard : (g : Measures) (e : End) (x : State) (y : Account) (f : Parts) (c : Counts) (h : Heard) →
    removed e x ≡ Some f → takes_answer g e x ≡ answered_by h.refused c h → h.refused ≡ false →
    notes (takes e) g x y ≡ noted e f (answered c h) (takes_leaves g e x) y
noted_heard g e x y f c h front answer ok =
    let next : State = takes_leaves g e x in
    ap (λ o. note_take o (takes_answer g e x) e next y) front
    ∙ ap (λ a. note_take (Some f) a e next y) (granted g e x c h answer ok)

pub heard : {g : Measures} {e : End} {x : State} {y : Account} (f : Parts) (c : Counts) (h : Heard) →
    removed e x ≡ Some f → takes_answer g e x ≡ answered_by h.refused c h → h.refused ≡ false →
    Good g (takes_leaves g e x) (noted e f (answered c h) (takes_leaves g e x) y) → Taking g e x y
heard {g} {e} {x} {y} f c h front answer ok good =
    record {
      unrefused = subst Unrefused (sym (granted g e x c h answer ok)) tt;
      after = subst (Good g (takes_leaves g e x)) (sym (noted_heard g e x y f c h front answer ok)) good;
    }

-- a frame that acknowledges nothing leaves the tally
pub acknowledge_none : (y : Tally) → acknowledge 0 y ≡ y
acknowledge_none y = ap at_count (add-zero y.acknowledged)
  where
    at_count : ℕ → Tally
    at_count n = record y { acknowledged = n }

-- what waits after an I frame, and after RR or RNR
pub whole_info : (v w : Bool) (x : Station) (y : Tally) (nr : ℕ) (z : Block) →
    Whole x y → Whole (heard_i v w x nr z).station (told z (heard_i v w x nr z) y)
whole_info false w x y nr z h = record { whole = h.whole }
whole_info true false x y nr z h = record { whole = h.whole }
whole_info true true x y nr z h =
    record { whole = sym (append_assoc y.fetched x.waiting (z ∷ [])) ∙ ap (λ q. q ++ (z ∷ [])) h.whole }

pub whole_status : (v : Bool) (x : Station) (y : Tally) (busy : Bool) (nr : ℕ) (z : Block) →
    Whole x y → Whole (heard_s v x busy nr).station (told z (heard_s v x busy nr) y)
whole_status false x y busy nr z h = record { whole = h.whole }
whole_status true x y busy nr z h = record { whole = h.whole }
