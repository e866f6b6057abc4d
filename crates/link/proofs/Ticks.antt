-- A tick keeps the invariant: entries age and leave, and when the timer is out the request goes out again.
use Rattle.std.proofs.Common.{◌≡◌, ℕ, ◌+◌, ◌*◌, ◌≤◌, Bool, true, false, eqb, ltb, leb, List, [], length, Some, None, Ok, refl}
use Rattle.std.proofs.lemmas.Bool.{leb-true}
use Rattle.frames.specs.declared.kind.Kind.TheVariants.{Sarm, Disc}
use Rattle.lines.specs.Entries.{Entry}
use Rattle.lines.specs.Line.{older}
use Rattle.stations.specs.declared.mode.Mode.{Mode}
use Rattle.stations.specs.declared.mode.Mode.TheVariants.{Opening, Open, Closing}
use Rattle.stations.specs.Station.{Station}
use Rattle.stations.specs.Puts.{plain, status}
use Rattle.stations.specs.Primary.{tick_by}
use Rattle.link.specs.State.{Measures, State, state}
use Rattle.link.specs.Calls.{by_primary}
use Rattle.link.specs.History.{Tally, Account, account, ticks}
use Rattle.link.specs.Promise.{Whole}
use Rattle.link.proofs.Thinning.{Thin, thin_older}
use Rattle.link.proofs.Marks.{marked_status}
use Rattle.link.proofs.Exchange.{Exchange, Quiet, exchange_ask, exchange_tick_off, exchange_tick, exchange_out}
use Rattle.link.proofs.Ends.{Duplex, thin_there, thin_back, status_duplex, disc_duplex}
use Rattle.link.proofs.Openings.{Sarms, sarms_thin, sarms_put, Newly, newly_thin}
use Rattle.link.proofs.Closings.{Ending, ending_thin, ending_put, Last, last_quiet, last_thin, last_thin_one}
use Rattle.link.proofs.Phases.{Phase, both_closed, opening, both_open, closing, half_closed, Wholes, Good, Then}

-- the state after a tick with the timer at n: out, or running on
abbrev ticked : Measures → Bool → ℕ → List Entry → List Entry → Mode → Bool → Station → Station → State
ticked g out n one two m u p s =
    let aged = older g.d one in
    by_primary (Ok (tick_by out g.k m n p aged)) (state aged (older g.d two) m (Some n) u p s)

module _ (g : Measures) (large : 2 * g.d + 1 ≤ g.t) (n : ℕ)
    (one two : List Entry) (p s : Station) (pt st : Tally) where
  thin_one : Thin one (older g.d one)
  thin_one = thin_older g.d one

  thin_two : Thin two (older g.d two)
  thin_two = thin_older g.d two

  abbrev room : Bool
  room = ltb (length (older g.d one)) g.k

  module _ (q : Whole p pt × Whole s st) (i : Exchange g (Some n) one two) where
    silent : leb g.t (n + 1) ≡ true → Quiet g (older g.d one) (older g.d two)
    silent e = exchange_out large (leb-true g.t (n + 1) e) i

    tick_opening : (out u : Bool) → leb g.t (n + 1) ≡ out → Sarms one → Newly u two s st →
        Good g (ticked g out n one two Opening u p s) (account pt st)
    tick_opening true u e h f = (
      opening (exchange_ask room (plain Sarm) refl (silent e)) (sarms_put room (sarms_thin thin_one h))
          (newly_thin thin_two f),
      q,
    )
    tick_opening false u e h f = (opening (exchange_tick i) (sarms_thin thin_one h) (newly_thin thin_two f), q)

    tick_both_open : (out : Bool) → leb g.t (n + 1) ≡ out → Duplex false p pt s st one two →
        Good g (ticked g out n one two Open true p s) (account pt st)
    tick_both_open true e d =
        let m = marked_status (eqb (length p.waiting) 7) 0 p.vr 1 [] in (
          both_open (exchange_ask room (status p) m (silent e))
              (status_duplex g.k (thin_there thin_one (thin_back thin_two d))),
          q,
        )
    tick_both_open false e d = (both_open (exchange_tick i) (thin_there thin_one (thin_back thin_two d)), q)

    tick_closing : (out : Bool) → leb g.t (n + 1) ≡ out → Duplex true s st p pt two one →
        Good g (ticked g out n one two Closing true p s) (account pt st)
    tick_closing true e d =
        let w = silent e in (
          closing (exchange_ask room (plain Disc) refl w)
              (disc_duplex room (thin_there thin_two (thin_back thin_one d)) w.0),
          q,
        )
    tick_closing false e d = (closing (exchange_tick i) (thin_there thin_two (thin_back thin_one d)), q)

    tick_half_closed : (out : Bool) → leb g.t (n + 1) ≡ out → Ending one → Last one two →
        Good g (ticked g out n one two Closing false p s) (account pt st)
    tick_half_closed true e h l =
        let w = silent e in (
          half_closed (exchange_ask room (plain Disc) refl w) (ending_put room (ending_thin h thin_one) w.0)
              (last_quiet _ (last_thin thin_two l) w.1),
          q,
        )
    tick_half_closed false e h l =
        (half_closed (exchange_tick i) (ending_thin h thin_one) (last_thin_one thin_one (last_thin thin_two l)), q)

module _ (g : Measures) (large : 2 * g.d + 1 ≤ g.t) where
  pub keep_ticks : {x : State} {y : Account} → Phase g x y → Wholes x y → Then ticks g x y
  keep_ticks both_closed q = (both_closed, q)
  keep_ticks (opening {n = n} {one = one} {two = two} {u = u} {p = p} {s = s} {pt = pt} {st = st} i h f) q =
      tick_opening g large n one two p s pt st q i (leb g.t (n + 1)) u refl h f
  keep_ticks (both_open {t = None} {one = one} {two = two} i d) q =
      (both_open (exchange_tick_off i) (thin_there (thin_older g.d one) (thin_back (thin_older g.d two) d)), q)
  keep_ticks (both_open {t = Some n} {one = one} {two = two} {p = p} {s = s} {pt = pt} {st = st} i d) q =
      tick_both_open g large n one two p s pt st q i (leb g.t (n + 1)) refl d
  keep_ticks (closing {n = n} {one = one} {two = two} {p = p} {s = s} {pt = pt} {st = st} i d) q =
      tick_closing g large n one two p s pt st q i (leb g.t (n + 1)) refl d
  keep_ticks (half_closed {n = n} {one = one} {two = two} {p = p} {s = s} {pt = pt} {st = st} i e l) q =
      tick_half_closed g large n one two p s pt st q i (leb g.t (n + 1)) refl e l
