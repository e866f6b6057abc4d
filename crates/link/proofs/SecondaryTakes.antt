-- A take at the secondary keeps the invariant.
use Rattle.std.proofs.Common.{ℕ, ◌+◌, max, Bool, true, false, eqb, ltb, List, [], ◌∷◌, length, Some, refl}
use Rattle.frames.specs.declared.kind.Kind.TheVariants.{I, Ua, Dm}
use Rattle.frames.specs.Parts.{parts}
use Rattle.lines.specs.Entries.{Entry, frame}
use Rattle.stations.specs.declared.mode.Mode.{Mode}
use Rattle.stations.specs.declared.mode.Mode.TheVariants.{Opening, Open, Closing}
use Rattle.stations.specs.Station.{Block, Station, allowed, wanted, status_by}
use Rattle.stations.specs.Puts.{plain}
use Rattle.stations.specs.Rule.{hear_i, hear_s}
use Rattle.stations.specs.Primary.{Timer}
use Rattle.stations.specs.Secondary.{final_by}
use Rattle.link.specs.declared.end.End.TheVariants.{Secondary}
use Rattle.link.specs.State.{Measures, State, state}
use Rattle.link.specs.History.{Tally, Account, account}
use Rattle.link.specs.Promise.{Whole}
use Rattle.link.proofs.Marks.{marked_status, marks_tail}
use Rattle.link.proofs.Exchange.{Exchange, exchange_one, exchange_answer, exchange_free, exchange_final}
use Rattle.link.proofs.Flows.{Tells, Carries, Stream, done, skip, info, status, disc}
use Rattle.link.proofs.Tallies.{sound_reset}
use Rattle.link.proofs.Ends.{Between, Duplex, flip, told, info_unrefused, status_unrefused, told_allowed, status_heard, info_heard, tail_back, final_duplex}
use Rattle.link.proofs.Openings.{Sarms, sarm_none, sarm_struck, sarm_next, Newly, just_open, newly_behind, behind_put_ua}
use Rattle.link.proofs.Closings.{Ending, ending_none, ending_struck, ending_disc, Last, flow_last, last_free, last_put}
use Rattle.link.proofs.Phases.{Phase, both_closed, opening, both_open, closing, half_closed, Wholes, Good}
use Rattle.link.proofs.Takes.{Taking, took, heard, whole_info, whole_status}

-- a phase in which the secondary is open and has one connection with the primary
abbrev Connects : Measures → Bool → Mode → Timer → Station → Tally → Type 0
Connects g c m t p pt = (es fs : List Entry) (x : Station) (xt : Tally) →
    Exchange g t es fs → Duplex c x xt p pt fs es → Phase g (state es fs m t true p x) (account pt xt)

module _ {g : Measures} {c : Bool} {m : Mode} {t : Timer} {p s : Station} {pt st : Tally} {es two : List Entry}
    (phase : Connects g c m t p pt) {a ns nr b v : ℕ} {z : Block} (l : Tells nr st.acknowledged v) where
  -- an I frame
  take_info : {n : ℕ} → Carries pt.accepted ns (length st.taken) n z →
      Stream pt.accepted (length pt.taken) c (max (length st.taken) (n + 1)) v es →
      Exchange g t (frame a (parts I ns nr b z) ∷ es) two →
      Duplex c s st p pt two (frame a (parts I ns nr b z) ∷ es) → Whole p pt × Whole s st →
      Taking g Secondary (state (frame a (parts I ns nr b z) ∷ es) two m t true p s) (account pt st)
  take_info k rest i d q =
      let h = tail_back d in
      heard _ _ (hear_i s ns nr z) refl refl (info_unrefused s ns nr z (told_allowed l rest h)) (
        phase _ _ _ _ (exchange_one marks_tail i) (info_heard k l rest h),
        (q.0, whole_info (allowed s nr) (wanted s ns) s st nr z q.1),
      )

  -- RR or RNR, and the answer to a poll
  status_good : (busy : Bool) →
      Stream pt.accepted (length pt.taken) c (length st.taken) v es →
      Exchange g t (frame a (parts (status_by busy) ns nr b z) ∷ es) two → Duplex c s st p pt two es →
      Whole p pt × Whole s st →
      let h = hear_s s busy nr in
      Good g (state es (final_by h.refused (eqb b 1) g.k h.station two) m t true p h.station)
      (account pt (told z h st))
  status_good busy rest i d q =
      let h = hear_s s busy nr in (
        phase _ _ _ _ (exchange_final h.refused (eqb b 1) g.k h.station (marked_status busy ns nr b z) i)
            (final_duplex h.refused (eqb b 1) g.k (status_heard busy z l rest d)),
        (q.0, whole_status (allowed s nr) s st busy nr z q.1),
      )

  take_status : (busy : Bool) →
      Stream pt.accepted (length pt.taken) c (length st.taken) v es →
      Exchange g t (frame a (parts (status_by busy) ns nr b z) ∷ es) two →
      Duplex c s st p pt two (frame a (parts (status_by busy) ns nr b z) ∷ es) → Whole p pt × Whole s st →
      Taking g Secondary (state (frame a (parts (status_by busy) ns nr b z) ∷ es) two m t true p s) (account pt st)
  take_status true rest i d q =
      heard _ _ (hear_s s true nr) refl refl (status_unrefused s true nr (told_allowed l rest (tail_back d)))
      (status_good true rest i (tail_back d) q)
  take_status false rest i d q =
      heard _ _ (hear_s s false nr) refl refl (status_unrefused s false nr (told_allowed l rest (tail_back d)))
      (status_good false rest i (tail_back d) q)

module _ {g : Measures} where
  take_both_open : {t : Timer} {one two : List Entry} {p s : Station} {pt st : Tally} →
      Between false pt st one →
      Exchange g t one two → Duplex false s st p pt two one → Whole p pt × Whole s st →
      Taking g Secondary (state one two Open t true p s) (account pt st)
  take_both_open (done l h) i d q = took tt (both_open i (flip d), q)
  take_both_open (skip f) i d q = took tt (both_open (exchange_one marks_tail i) (flip (tail_back d)), q)
  take_both_open (info k l f) i d q = take_info (λ es fs x xt j e. both_open j (flip e)) l k f i d q
  take_both_open (status busy l f) i d q = take_status (λ es fs x xt j e. both_open j (flip e)) l busy f i d q

  take_closing : {n : ℕ} {one two : List Entry} {p s : Station} {pt st : Tally} →
      Between true pt st one →
      Exchange g (Some n) one two → Duplex true s st p pt two one → Whole p pt × Whole s st →
      Taking g Secondary (state one two Closing (Some n) true p s) (account pt st)
  take_closing (done l h) i d q = took tt (closing i d, q)
  take_closing (skip f) i d q = took tt (closing (exchange_one marks_tail i) (tail_back d), q)
  take_closing (info k l f) i d q = take_info (λ es fs x xt j e. closing j e) l k f i d q
  take_closing (status busy l f) i d q = take_status (λ es fs x xt j e. closing j e) l busy f i d q
  take_closing {one = one} {two = two} (disc l h) i d q =
      let room = ltb (length two) g.k in
      took tt (
        half_closed (exchange_answer room (plain Ua) refl refl i) ending_none
            (last_put room true (flow_last one d.there)),
        (q.0, record { whole = q.1.whole }),
      )

  take_opening : {n : ℕ} {one two : List Entry} {u : Bool} {p s : Station} {pt st : Tally} →
      Sarms one → Exchange g (Some n) one two → Newly u two s st → Whole p pt × Whole s st →
      Taking g Secondary (state one two Opening (Some n) u p s) (account pt st)
  take_opening sarm_none i f q = took tt (opening i sarm_none f, q)
  take_opening (sarm_struck h) i f q = took tt (opening (exchange_one marks_tail i) h f, q)
  take_opening {two = two} {s = s} {st = st} (sarm_next h) i f q =
      let room = ltb (length two) g.k in
      let w = exchange_free refl i in
      took tt (
        opening (exchange_answer room (plain Ua) refl refl i) h
            (just_open (sound_reset s st) refl refl (behind_put_ua room (newly_behind [] f w) w)),
        (q.0, record { whole = q.1.whole }),
      )

  take_half_closed : {n : ℕ} {one two : List Entry} {p s : Station} {pt st : Tally} →
      Ending one → Exchange g (Some n) one two → Last one two → Whole p pt × Whole s st →
      Taking g Secondary (state one two Closing (Some n) false p s) (account pt st)
  take_half_closed ending_none i l q = took tt (half_closed i ending_none l, q)
  take_half_closed (ending_struck {es = es} h) i l q =
      took tt (half_closed (exchange_one marks_tail i) h (last_free es l), q)
  take_half_closed {two = two} ending_disc i l q =
      let room = ltb (length two) g.k in
      took tt (
        half_closed (exchange_answer room (plain Dm) refl refl i) ending_none (last_put room false l),
        (q.0, record { whole = q.1.whole }),
      )

  pub secondary_takes : {x : State} {y : Account} → Phase g x y → Wholes x y → Taking g Secondary x y
  secondary_takes both_closed q = took tt (both_closed, q)
  secondary_takes (opening i s f) q = take_opening s i f q
  secondary_takes (both_open i d) q = take_both_open d.there i (flip d) q
  secondary_takes (closing i d) q = take_closing d.back i d q
  secondary_takes (half_closed i e l) q = take_half_closed e i l q
