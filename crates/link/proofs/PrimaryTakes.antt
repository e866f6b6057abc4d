-- A take at the primary keeps the invariant.
use Rattle.std.proofs.Common.{◌≡◌, ℕ, Bool, true, false, eqb, List, [], ◌∷◌, length, take, Some, sym, refl, ap, ◌∙◌, subst, arith}
use Rattle.frames.specs.Parts.{parts}
use Rattle.lines.specs.Entries.{Entry, frame}
use Rattle.stations.specs.declared.mode.Mode.TheVariants.{Opening, Open, Closing}
use Rattle.stations.specs.Station.{Block, Station, reset, allowed, wanted, status_by}
use Rattle.stations.specs.Rule.{hear_i, hear_s}
use Rattle.stations.specs.Primary.{Timer, timer_by, resend_by}
use Rattle.link.specs.declared.end.End.TheVariants.{Primary}
use Rattle.link.specs.State.{Measures, State, state}
use Rattle.link.specs.History.{Tally, Account, account, restart, acknowledge}
use Rattle.link.specs.Promise.{Whole}
use Rattle.link.proofs.Marks.{Marks, marked_status, marks_tail}
use Rattle.link.proofs.Exchange.{Exchange, exchange_none, exchange_two, exchange_done, exchange_resend}
use Rattle.link.proofs.Flows.{Tells, Flow, done, skip, info, status, flow_less, flow_more}
use Rattle.link.proofs.Tallies.{Sound, sound_reset}
use Rattle.link.proofs.Ends.{Between, Duplex, told, info_unrefused, status_unrefused, told_allowed, status_heard, info_heard, tail_back, tail_there, resend_duplex}
use Rattle.link.proofs.Openings.{Sarms, sarms_flow, Behind, behind_none, behind_struck, behind_info, behind_status, behind_ua, still_closed, just_open}
use Rattle.link.proofs.Closings.{Ending, Last, last_none, last_struck, last_info, last_status, last_answer}
use Rattle.link.proofs.Phases.{Phase, both_closed, opening, both_open, closing, half_closed, Wholes, Good}
use Rattle.link.proofs.Takes.{Taking, took, heard, acknowledge_none, whole_info, whole_status}

-- with the UA the connection stands: nothing is taken in, and what is on the ways belongs to it
connected : {d : ℕ} {P : ℕ → Type 0} {one es : List Entry} (p : Station) {s : Station} (pt : Tally) {st : Tally} →
    Sound s st → st.acknowledged ≡ 0 → st.taken ≡ [] →
    Sarms one → Flow st.accepted 0 0 0 es → Marks d P false one →
    Duplex false (reset p) (restart pt) s st one es
connected p pt {st} sound a r sarms f w =
    let empty : length st.taken ≡ 0 = ap length r in
    record {
      left = sound_reset p pt;
      right = sound;
      there = flow_less (length st.taken) st.acknowledged (omega arith) (omega arith) (sarms_flow [] 0 sarms w);
      back = flow_more (length st.taken) (omega arith) f;
      got_there = r ∙ sym (ap (λ q. take (length q) []) r);
      got_back = refl;
    }

module _ {g : Measures} where
  -- RR or RNR: a final ends the exchange
  status_good : {t : Timer} {p s : Station} {pt st : Tally} {one es : List Entry} →
      {a ns nr b v : ℕ} {z : Block} (busy : Bool) →
      Tells nr pt.acknowledged v → Flow st.accepted (length st.taken) (length pt.taken) v es →
      Exchange g t one (frame a (parts (status_by busy) ns nr b z) ∷ es) → Duplex false p pt s st one es →
      Whole p pt × Whole s st →
      Good g
      (state (resend_by (hear_s p busy nr).refused (eqb b 1) t g.k (hear_s p busy nr).station one) es Open
      (timer_by (hear_s p busy nr).refused (eqb b 1) t) true (hear_s p busy nr).station s)
      (account (told z (hear_s p busy nr) pt) st)
  status_good {t} {p} {pt = pt} {ns = ns} {nr = nr} {b = b} {z = z} busy l rest i d q =
      let h = hear_s p busy nr in (
        both_open (exchange_resend h.refused (eqb b 1) g.k h.station t (marked_status busy ns nr b z) i)
            (resend_duplex h.refused (eqb b 1) t g.k (status_heard busy z l rest d)),
        (whole_status (allowed p nr) p pt busy nr z q.0, q.1),
      )

  take_both_open : {t : Timer} {one two : List Entry} {p s : Station} {pt st : Tally} →
      Between false st pt two →
      Exchange g t one two → Duplex false p pt s st one two → Whole p pt × Whole s st →
      Taking g Primary (state one two Open t true p s) (account pt st)
  take_both_open (done l h) i d q = took tt (both_open i d, q)
  take_both_open (skip f) i d q = took tt (both_open (exchange_two marks_tail i) (tail_back d), q)
  take_both_open {p = p} {pt = pt} (info {ns = ns} {nr = nr} {x = z} k l f) i d q =
      let h = tail_back d in
      heard _ _ (hear_i p ns nr z) refl refl (info_unrefused p ns nr z (told_allowed l f h)) (
        both_open (exchange_two marks_tail i) (info_heard k l f h),
        (whole_info (allowed p nr) (wanted p ns) p pt nr z q.0, q.1),
      )
  take_both_open {p = p} (status {nr = nr} true l f) i d q =
      heard _ _ (hear_s p true nr) refl refl (status_unrefused p true nr (told_allowed l f (tail_back d)))
      (status_good true l f i (tail_back d) q)
  take_both_open {p = p} (status {nr = nr} false l f) i d q =
      heard _ _ (hear_s p false nr) refl refl (status_unrefused p false nr (told_allowed l f (tail_back d)))
      (status_good false l f i (tail_back d) q)

  -- any frame but the UA is passed over
  take_opening : {n : ℕ} {one two : List Entry} {p s : Station} {pt st : Tally} →
      Behind st.accepted two → Sound s st → st.acknowledged ≡ 0 → st.taken ≡ [] → Sarms one →
      Exchange g (Some n) one two → Whole p pt × Whole s st →
      Taking g Primary (state one two Opening (Some n) true p s) (account pt st)
  take_opening behind_none sound a r h i q = took tt (opening i h (just_open sound a r behind_none), q)
  take_opening (behind_struck b) sound a r h i q =
      took tt (opening (exchange_two marks_tail i) h (just_open sound a r b), q)
  take_opening (behind_info b) sound a r h i q =
      took tt (opening (exchange_two marks_tail i) h (just_open sound a r b), (record { whole = q.0.whole }, q.1))
  take_opening (behind_status true b) sound a r h i q =
      took tt (opening (exchange_two marks_tail i) h (just_open sound a r b), (record { whole = q.0.whole }, q.1))
  take_opening (behind_status false b) sound a r h i q =
      took tt (opening (exchange_two marks_tail i) h (just_open sound a r b), (record { whole = q.0.whole }, q.1))
  take_opening {p = p} {pt = pt} (behind_ua f) sound a r h i q =
      let w = exchange_done refl i in
      let d = connected p pt sound a r h f w.0 in
      took tt (both_open (exchange_none w) d, (record { whole = q.0.whole }, q.1))

  -- every frame is passed over, since the DISC is not answered yet
  passed : {n : ℕ} {one es : List Entry} {e : Entry} {p s : Station} {pt st : Tally} →
      Exchange g (Some n) one (e ∷ es) → Duplex true s st p pt (e ∷ es) one → Whole p pt × Whole s st →
      Good g (state one es Closing (Some n) true p s) (account (acknowledge 0 pt) st)
  passed {n} {one} {es} {p = p} {s = s} {pt = pt} {st = st} i d q =
      subst (λ y. Good g (state one es Closing (Some n) true p s) (account y st)) (sym (acknowledge_none pt))
      (closing (exchange_two marks_tail i) (tail_there d), q)

  take_closing : {n : ℕ} {one two : List Entry} {p s : Station} {pt st : Tally} →
      Between false st pt two →
      Exchange g (Some n) one two → Duplex true s st p pt two one → Whole p pt × Whole s st →
      Taking g Primary (state one two Closing (Some n) true p s) (account pt st)
  take_closing (done l h) i d q = took tt (closing i d, q)
  take_closing (skip f) i d q = took tt (closing (exchange_two marks_tail i) (tail_there d), q)
  take_closing (info k l f) i d q = took tt (passed i d q)
  take_closing (status true l f) i d q = took tt (passed i d q)
  take_closing (status false l f) i d q = took tt (passed i d q)

  take_half_closed : {n : ℕ} {one two : List Entry} {p s : Station} {pt st : Tally} →
      Last one two → Ending one → Exchange g (Some n) one two → Whole p pt × Whole s st →
      Taking g Primary (state one two Closing (Some n) false p s) (account pt st)
  take_half_closed last_none e i q = took tt (half_closed i e last_none, q)
  take_half_closed (last_struck h) e i q = took tt (half_closed (exchange_two marks_tail i) e h, q)
  take_half_closed (last_info h) e i q =
      took tt (half_closed (exchange_two marks_tail i) e h, (record { whole = q.0.whole }, q.1))
  take_half_closed (last_status true h) e i q =
      took tt (half_closed (exchange_two marks_tail i) e h, (record { whole = q.0.whole }, q.1))
  take_half_closed (last_status false h) e i q =
      took tt (half_closed (exchange_two marks_tail i) e h, (record { whole = q.0.whole }, q.1))
  take_half_closed (last_answer true) e i q = took tt (both_closed, (record { whole = q.0.whole }, q.1))
  take_half_closed (last_answer false) e i q = took tt (both_closed, (record { whole = q.0.whole }, q.1))

  pub primary_takes : {x : State} {y : Account} → Phase g x y → Wholes x y → Taking g Primary x y
  primary_takes both_closed q = took tt (both_closed, q)
  primary_takes (opening i h still_closed) q = took tt (opening i h still_closed, q)
  primary_takes (opening i h (just_open sound a r b)) q = take_opening b sound a r h i q
  primary_takes (both_open i d) q = take_both_open d.back i d q
  primary_takes (closing i d) q = take_closing d.there i d q
  primary_takes (half_closed i e l) q = take_half_closed l e i q
