-- A send at either end keeps the invariant.
use Rattle.std.proofs.Common.{◌≡◌, ℕ, ◌<◌, Bool, true, false, ltb, leb, List, [], length, Some, None, Option, refl}
use Rattle.std.proofs.lemmas.Bool.{leb-false}
use Rattle.lines.specs.Entries.{Entry}
use Rattle.stations.specs.declared.mode.Mode.TheVariants.{Opening, Open, Closing}
use Rattle.stations.specs.declared.refusal.StationRefusal.{StationRefusal}
use Rattle.stations.specs.Station.{Block, Station, outstanding, send_refusal, send_check}
use Rattle.stations.specs.Puts.{inform}
use Rattle.stations.specs.Primary as primary
use Rattle.stations.specs.Primary.{Timer}
use Rattle.stations.specs.Secondary as secondary
use Rattle.link.specs.declared.end.End.TheVariants.{Primary, Secondary}
use Rattle.link.specs.State.{Measures, State, state}
use Rattle.link.specs.Calls.{by_primary, by_secondary, counted, replied}
use Rattle.link.specs.History.{Tally, Account, account, note_send, sends}
use Rattle.link.specs.Promise.{Whole}
use Rattle.link.proofs.Marks.{marks_put}
use Rattle.link.proofs.Exchange.{Exchange, exchange_one, exchange_two}
use Rattle.link.proofs.Tallies.{Sound}
use Rattle.link.proofs.Ends.{Duplex, flip, send_duplex}
use Rattle.link.proofs.Openings.{Sarms, Behind, still_closed, just_open, newly_sent}
use Rattle.link.proofs.Phases.{Phase, both_closed, opening, both_open, closing, half_closed, Wholes, Good, Then}

-- a send is granted only where fewer than 7 blocks are outstanding
granted_room : (x : Station) (z : Block) → send_check true x z ≡ None → outstanding x < 7
granted_room x z e =
    leb-false 7 (outstanding x) (go (ltb 64 (length z)) (leb 7 (outstanding x)) x.busy e)
  where
    go : (long full busy : Bool) → send_refusal true long full busy ≡ None → full ≡ false
    go true full busy e = cc
    go false true busy e = cc
    go false false busy e = refl

module _ (g : Measures) (z : Block) where
  -- the state and the account after a send whose check gave this
  abbrev PrimarySent : Option StationRefusal → List Entry → List Entry → Timer → Station → Station → Account → Type 0
  PrimarySent r one two t p s y =
      let move = primary.send_by r g.k Open t p z one in
      Good g (by_primary move (state one two Open t true p s)) (note_send (counted move one) Primary z y)

  abbrev SecondarySent : Option StationRefusal → State → List Entry → Station → Account → Type 0
  SecondarySent r x two s y =
      let reply = secondary.send_by r g.k true s z two in
      Good g (by_secondary reply x) (note_send (replied reply two) Secondary z y)

  module _ {one two : List Entry} {p s : Station} {pt st : Tally} (q : Whole p pt × Whole s st) where
    primary_both_open : {t : Timer} (r : Option StationRefusal) → send_check true p z ≡ r →
        Exchange g t one two → Duplex false p pt s st one two → PrimarySent r one two t p s (account pt st)
    primary_both_open (Some e) check i d = (both_open i d, q)
    primary_both_open None check i d = (
      both_open (exchange_one (marks_put (ltb (length one) g.k) (inform p p.vs z) refl) i)
          (send_duplex g.k z (granted_room p z check) d),
      (record { whole = q.0.whole }, q.1),
    )

    secondary_both_open : {t : Timer} (r : Option StationRefusal) → send_check true s z ≡ r →
        Exchange g t one two → Duplex false s st p pt two one →
        SecondarySent r (state one two Open t true p s) two s (account pt st)
    secondary_both_open (Some e) check i d = (both_open i (flip d), q)
    secondary_both_open None check i d = (
      both_open (exchange_two (marks_put (ltb (length two) g.k) (inform s s.vs z) refl) i)
          (flip (send_duplex g.k z (granted_room s z check) d)),
      (q.0, record { whole = q.1.whole }),
    )

    secondary_closing : {n : ℕ} (r : Option StationRefusal) → send_check true s z ≡ r →
        Exchange g (Some n) one two → Duplex true s st p pt two one →
        SecondarySent r (state one two Closing (Some n) true p s) two s (account pt st)
    secondary_closing (Some e) check i d = (closing i d, q)
    secondary_closing None check i d = (
      closing (exchange_two (marks_put (ltb (length two) g.k) (inform s s.vs z) refl) i)
          (send_duplex g.k z (granted_room s z check) d),
      (q.0, record { whole = q.1.whole }),
    )

    -- before the primary is open
    secondary_opening : {n : ℕ} (r : Option StationRefusal) → send_check true s z ≡ r →
        Exchange g (Some n) one two → Sarms one →
        Sound s st → st.acknowledged ≡ 0 → st.taken ≡ [] → Behind st.accepted two →
        SecondarySent r (state one two Opening (Some n) true p s) two s (account pt st)
    secondary_opening (Some e) check i h sound a t b = (opening i h (just_open sound a t b), q)
    secondary_opening None check i h sound a t b = (
      opening (exchange_two (marks_put (ltb (length two) g.k) (inform s s.vs z) refl) i) h
          (newly_sent g.k z (granted_room s z check) sound a t b),
      (q.0, record { whole = q.1.whole }),
    )

  pub keep_primary_sends : {x : State} {y : Account} → Phase g x y → Wholes x y → Then (sends Primary z) g x y
  keep_primary_sends both_closed q = (both_closed, q)
  keep_primary_sends (opening i s f) q = (opening i s f, q)
  keep_primary_sends (both_open {p = p} i d) q = primary_both_open q (send_check true p z) refl i d
  keep_primary_sends (closing i d) q = (closing i d, q)
  keep_primary_sends (half_closed i e l) q = (half_closed i e l, q)

  pub keep_secondary_sends : {x : State} {y : Account} → Phase g x y → Wholes x y → Then (sends Secondary z) g x y
  keep_secondary_sends both_closed q = (both_closed, q)
  keep_secondary_sends (opening i h still_closed) q = (opening i h still_closed, q)
  keep_secondary_sends (opening {s = s} i h (just_open sound a t b)) q =
      secondary_opening q (send_check true s z) refl i h sound a t b
  keep_secondary_sends (both_open {s = s} i d) q = secondary_both_open q (send_check true s z) refl i (flip d)
  keep_secondary_sends (closing {s = s} i d) q = secondary_closing q (send_check true s z) refl i d
  keep_secondary_sends (half_closed i e l) q = (half_closed i e l, q)
