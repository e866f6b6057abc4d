-- The law: a link that its check grants keeps its promise after every list of calls.
use Rattle.std.proofs.Common.{◌≡◌, ℕ, ◌+◌, ◌*◌, ◌≤◌, Bool, true, false, ◌&&◌, eqb, leb, List, [], ◌∷◌, length, None, Err, refl, ap, subst, arith}
use Rattle.std.proofs.lemmas.Bool.{both_ways, leb-true, eqb-true, and_parts}
use Rattle.lines.specs.Entries.{Entry, Lists}
use Rattle.stations.specs.declared.mode.Mode.{Mode}
use Rattle.stations.specs.declared.mode.Mode.TheVariants.{Closed, Opening, Open, Closing}
use Rattle.stations.specs.declared.refusal.StationRefusal.TheVariants.{Numbering}
use Rattle.stations.specs.Station.{fresh}
use Rattle.stations.specs.Primary.{is_open}
use Rattle.link.specs.declared.end.End.{End}
use Rattle.link.specs.declared.end.End.TheVariants.{Primary, Secondary}
use Rattle.link.specs.declared.refusal.LinkRefusal.TheVariants.{Station as ByStation}
use Rattle.link.specs.State.{Measures, State, state, Model, timed, no_entries, fault_by, made}
use Rattle.link.specs.Calls.{takes_answer}
use Rattle.link.specs.History.{Call, run, Account, account, no_tally}
use Rattle.link.specs.Promise.{Promised, Kept, Law}
use Rattle.link.proofs.Ends.{flip, direction}
use Rattle.link.proofs.Tallies.{unacknowledged}
use Rattle.link.proofs.Phases.{Phase, both_closed, opening, both_open, closing, half_closed, Wholes, Good}
use Rattle.link.proofs.Takes.{Unrefused}
use Rattle.link.proofs.PrimaryTakes.{primary_takes}
use Rattle.link.proofs.SecondaryTakes.{secondary_takes}
use Rattle.link.proofs.Histories.{run_measures, keep_run}

-- ---- what the invariant promises

not_open : (m : Mode) → is_open m ≡ false → m ≡ Open → ⊥
not_open m closed e = both_ways (is_open m) closed (ap is_open e)

promised : {g : Measures} {x : State} {y : Account} → Phase g x y → Wholes x y → Promised x y
promised both_closed q = (q.0, q.1, λ e. absurd (not_open Closed refl e))
promised (opening i s f) q = (q.0, q.1, λ e. absurd (not_open Opening refl e))
promised (both_open i d) q = (q.0, q.1, λ e. (direction d, direction (flip d), unacknowledged d.left, unacknowledged d.right))
promised (closing i d) q = (q.0, q.1, λ e. absurd (not_open Closing refl e))
promised (half_closed i e l) q = (q.0, q.1, λ e. absurd (not_open Closing refl e))

-- in no state with the invariant does a take answer numbering
abbrev Refuses : Measures → State → End → Type 0
Refuses g x e = takes_answer g e x ≡ Err (ByStation Numbering)

numbered : {g : Measures} {x : State} {y : Account} → Good g x y → (e : End) → Refuses g x e → ⊥
numbered h Primary is = subst Unrefused is (primary_takes h.0 h.1).unrefused
numbered h Secondary is = subst Unrefused is (secondary_takes h.0 h.1).unrefused

-- ---- what the check grants

no_fault : (timely free : Bool) → fault_by timely free ≡ None → (timely ≡ true) × (free ≡ true)
no_fault true true e = (refl, refl)
no_fault true false e = cc
no_fault false free e = cc

none_there : (es : List Entry) → length es ≡ 0 → [] ≡ es
none_there [] e = refl
none_there (e ∷ es) l = absurd (omega arith)

module _ (ls : Lists) (t : ℕ) (sound : (made ls t).fault ≡ None) where
  tests : (timed ls.capacity ls.lifetime t ≡ true) × (no_entries ls.one ls.two ≡ true)
  tests = no_fault (timed ls.capacity ls.lifetime t) (no_entries ls.one ls.two) sound

  -- T is at least 2D + 1
  pub large : 2 * ls.lifetime + 1 ≤ t
  large =
      let enough = leb (2 * ls.lifetime + 1) t in
      let first = (and_parts (leb 8 ls.capacity && enough) (leb t 10000) tests.0).0 in
      leb-true (2 * ls.lifetime + 1) t (and_parts (leb 8 ls.capacity) enough first).1

  -- K is at least 8
  pub wide : 8 ≤ ls.capacity
  wide =
      let enough = leb (2 * ls.lifetime + 1) t in
      let first = (and_parts (leb 8 ls.capacity && enough) (leb t 10000) tests.0).0 in
      leb-true 8 ls.capacity (and_parts (leb 8 ls.capacity) enough first).0

  -- and T is at most 10,000
  pub short : t ≤ 10000
  short =
      let enough = leb (2 * ls.lifetime + 1) t in
      leb-true t 10000 (and_parts (leb 8 ls.capacity && enough) (leb t 10000) tests.0).1

  pub one_empty : [] ≡ ls.one
  one_empty =
      none_there ls.one (eqb-true (length ls.one) 0 (and_parts (eqb (length ls.one) 0) _ tests.1).0)

  pub two_empty : [] ≡ ls.two
  two_empty =
      none_there ls.two (eqb-true (length ls.two) 0 (and_parts (eqb (length ls.one) 0) _ tests.1).1)

  -- so a new link has the invariant
  abbrev Starts : List Entry → List Entry → Type 0
  Starts one two = Good (made ls t).measures (state one two Closed None false fresh fresh) (account no_tally no_tally)

  pub start : Starts ls.one ls.two
  start =
      subst (λ one. Starts one ls.two) one_empty
      (subst (λ two. Starts [] two) two_empty (both_closed, (record { whole = refl }, record { whole = refl })))

  pub kept : (calls : List Call) → Kept (made ls t) calls
  kept calls =
      let l : Model = made ls t in
      let good = keep_run l (account no_tally no_tally) large sound start calls in
      record {
        promised = promised good.0 good.1;
        numbered = λ e is.
            numbered good e (subst (λ g. Refuses g (run l calls).now e) (run_measures l calls) is);
      }

pub law : (ls : Lists) (t : ℕ) → Law (made ls t)
law ls t sound calls = kept ls t sound calls
