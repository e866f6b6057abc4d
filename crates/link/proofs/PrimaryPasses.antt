-- A pass at the primary: what it takes in, and what it leaves on way 1.
use Rattle.std.proofs.Common.{◌≡◌, ℕ, zero, suc, ◌+◌, ◌≤◌, Bool, true, false, eqb, List, [], ◌∷◌, length, replicate, Some, None, sym, refl, ◌∙◌, subst, arith}
use Rattle.frames.specs.declared.kind.Kind.TheVariants.{I}
use Rattle.frames.specs.Parts.{parts}
use Rattle.lines.specs.Entries.{Entry, frame}
use Rattle.stations.specs.declared.mode.Mode.TheVariants.{Open}
use Rattle.stations.specs.Station.{Block, Station, allowed, wanted, status_by}
use Rattle.stations.specs.Puts.{no_counts}
use Rattle.stations.specs.Rule.{hear_i, hear_s}
use Rattle.stations.specs.Primary.{Timer, timer_by, resend_by}
use Rattle.link.specs.declared.end.End.TheVariants.{Primary}
use Rattle.link.specs.State.{Measures, State, state}
use Rattle.link.specs.History.{takes, run, Tally, Account, account, account_of}
use Rattle.link.proofs.Marks.{Marks, marked_status, marks_tail, marks_again}
use Rattle.link.proofs.Exchange.{Exchange, NoAge, exchange_two, exchange_resend}
use Rattle.link.proofs.Flows.{done, skip, info, status}
use Rattle.link.proofs.Ends.{Between, Duplex, told, info_unrefused, status_unrefused, told_allowed, status_heard, info_heard, tail_back, resend_duplex}
use Rattle.link.proofs.Takes.{noted_heard}
use Rattle.link.proofs.Histories.{faultless}
use Rattle.link.proofs.Deliveries.{Room, info_accepted, info_acknowledged, info_room, status_accepted, status_acknowledged, status_taken, status_room, Delivers, delivers_end, delivers_struck, delivers_info, delivers_status, info_next, window_most, again_length}

-- what the primary may still put in a pass: the blocks that a final has it send again
abbrev pub slack : Timer → ℕ
slack None = 0
slack (Some n) = 7

module _ (k : ℕ) (x : Station) where
  resend_length : (refused final : Bool) (t : Timer) (es : List Entry) → length x.window ≤ 7 →
      length (resend_by refused final t k x es) + slack (timer_by refused final t) ≤ length es + slack t
  resend_length true final t es h = omega arith
  resend_length false false t es h = omega arith
  resend_length false true None es h = omega arith
  resend_length false true (Some n) es h = let l = again_length x.busy k x es h in omega arith

  resend_unmarked : (refused final : Bool) (t : Timer) {d : ℕ} {P : ℕ → Type 0} {es : List Entry} →
      Marks d P false es → Marks d P false (resend_by refused final t k x es)
  resend_unmarked true final t h = h
  resend_unmarked false false t h = h
  resend_unmarked false true None h = h
  resend_unmarked false true (Some n) {P = P} h = marks_again x.busy k x P false h

  resend_none : (refused final : Bool) (t : Timer) (es : List Entry) → t ≡ None →
      (resend_by refused final t k x es ≡ es) × (timer_by refused final t ≡ None)
  resend_none true final t es e = (refl, e)
  resend_none false false t es e = (refl, e)
  resend_none false true None es e = (refl, refl)
  resend_none false true (Some n) es e = cc

-- from way 1, the entries of way 2, the timer and the primary's tally, to way 1, the timer and the tally then; W is what
-- the room at the primary is known under
pub record Passed (W : Type 0) (g : Measures) (one one' two : List Entry) (t t' : Timer) (pt pt' st : Tally) : Type 0 where
  pub accepted_same : pt'.accepted ≡ pt.accepted
  pub acknowledged_more : pt.acknowledged ≤ pt'.acknowledged
  pub one_most : length one' ≤ length one + slack t
  pub one_unmarked : Marks g.d NoAge false one → Marks g.d NoAge false one'
  pub one_same : t ≡ None → (one' ≡ one) × (t' ≡ None)
  pub all_in : W → Delivers (length st.accepted) (length pt.taken) two → length pt'.taken ≡ length st.accepted

-- the state and the account after a pass at the primary
pub data AfterPrimary (W : Type 0) (g : Measures) (one two : List Entry) (t : Timer) (s : Station) (pt st : Tally) : State → Account → Type 0 where
  after_primary : {one' : List Entry} {t' : Timer} {p' : Station} {pt' : Tally} →
      Exchange g t' one' [] → Duplex false p' pt' s st one' [] → (W → Room p' pt' st) → Passed W g one one' two t t' pt pt' st →
      AfterPrimary W g one two t s pt st (state one' [] Open t' true p' s) (account pt' st)

again_after : {W : Type 0} {g : Measures} {one one₁ two two₁ : List Entry} {t t₁ : Timer} {s : Station} {pt pt₁ st : Tally} {x : State} {y : Account} →
    ((one' : List Entry) (t' : Timer) (pt' : Tally) → Passed W g one₁ one' two₁ t₁ t' pt₁ pt' st → Passed W g one one' two t t' pt pt' st) →
    AfterPrimary W g one₁ two₁ t₁ s pt₁ st x y → AfterPrimary W g one two t s pt st x y
again_after k (after_primary i d r f) = after_primary i d r (k _ _ _ f)

-- where n takes at the primary lead
abbrev Leads : Measures → ℕ → State → Account → (State → Account → Type 0) → Type 0
Leads g n x y F =
    F (run (faultless g x) (replicate n (takes Primary))).now (account_of (faultless g x) y (replicate n (takes Primary)))

module _ (W : Type 0) (g : Measures) (s : Station) (st : Tally) where
  -- RR or RNR at the front
  status_after : (busy : Bool) (p : Station) (pt : Tally) {a ns nr b : ℕ} {z : Block} {es one : List Entry} {t : Timer} {x : State} {y : Account} →
      let h = hear_s p busy nr in
      Duplex false h.station (told z h pt) s st one es →
      AfterPrimary W g (resend_by h.refused (eqb b 1) t g.k h.station one) es (timer_by h.refused (eqb b 1) t) s (told z h pt) st x y →
      AfterPrimary W g one (frame a (parts (status_by busy) ns nr b z) ∷ es) t s pt st x y
  status_after busy p pt {nr = nr} {b = b} {z = z} {es = es} {one = one} {t = t} d r =
      let h = hear_s p busy nr in
      let v = allowed p nr in
      let len = resend_length g.k h.station h.refused (eqb b 1) t one (window_most d.left) in
      again_after (λ one' t' pt' k. record {
        accepted_same = k.accepted_same ∙ status_accepted p pt nr z v busy;
        acknowledged_more = omega (arith, k.acknowledged_more, status_acknowledged p pt nr z v busy);
        one_most = omega (arith, k.one_most, len);
        one_unmarked = λ w. k.one_unmarked (resend_unmarked g.k h.station h.refused (eqb b 1) t w);
        one_same = λ e.
            let u = resend_none g.k h.station h.refused (eqb b 1) t one e in
            let w = k.one_same u.1 in
            (w.0 ∙ u.0, w.1);
        all_in = λ w c.
            k.all_in w (subst (λ u. Delivers (length st.accepted) (length u) es) (sym (status_taken p pt nr z v busy)) (delivers_status busy c));
      }) r

  -- by the number of entries
  passes : (n : ℕ) (one : List Entry) {two : List Entry} (t : Timer) (p : Station) (pt : Tally) → length two ≡ n →
      Between false st pt two → Exchange g t one two → Duplex false p pt s st one two → (W → Room p pt st) →
      Leads g (length two) (state one two Open t true p s) (account pt st) (AfterPrimary W g one two t s pt st)
  passes n one t p pt e (done l h) i d r =
      after_primary i d r (record {
        accepted_same = refl;
        acknowledged_more = omega arith;
        one_most = omega arith;
        one_unmarked = λ w. w;
        one_same = λ e. (refl, e);
        all_in = λ w c. delivers_end c;
      })
  passes zero one t p pt e (skip f) i d r = absurd (omega arith)
  passes zero one t p pt e (info c l f) i d r = absurd (omega arith)
  passes zero one t p pt e (status busy l f) i d r = absurd (omega arith)
  passes (suc n) one t p pt e (skip f) i d r =
      let d' = tail_back d in
      again_after (λ one' t' pt' k. record {
        accepted_same = k.accepted_same;
        acknowledged_more = k.acknowledged_more;
        one_most = k.one_most;
        one_unmarked = k.one_unmarked;
        one_same = k.one_same;
        all_in = λ w c. k.all_in w (delivers_struck c);
      })
      (passes n one t p pt (omega arith) d'.back (exchange_two marks_tail i) d' r)
  passes (suc n) one {two} t p pt e (info {ns = ns} {nr = nr} {b = b} {x = z} {es = es} c l f) i d r =
      let h = hear_i p ns nr z in
      let v = allowed p nr in
      let ok = told_allowed l f (tail_back d) in
      let d' = info_heard c l f (tail_back d) in
      let next = state one es Open t true h.station s in
      let is =
      noted_heard g Primary (state one two Open t true p s) (account pt st) (parts I ns nr b z) no_counts h refl refl (info_unrefused p ns nr z ok) in
      subst (λ y. Leads g (length es) next y (AfterPrimary W g one two t s pt st)) (sym is)
      (again_after (λ one' t' pt' k. record {
        accepted_same = k.accepted_same ∙ info_accepted p pt nr z v (wanted p ns);
        acknowledged_more = omega (arith, k.acknowledged_more, info_acknowledged p pt nr z v (wanted p ns));
        one_most = k.one_most;
        one_unmarked = k.one_unmarked;
        one_same = k.one_same;
        all_in = λ w c.
            let q = delivers_info c in
            k.all_in w (subst (λ u. Delivers (length st.accepted) u es) (sym (info_next ns nr z ok d.left (r w) q.0 q.1)) q.2);
      })
      (passes n one t h.station (told z h pt) (omega arith) d'.back (exchange_two marks_tail i) d' (λ w. info_room p pt nr z v (wanted p ns) st (r w))))
  passes (suc n) one {two} t p pt e (status {ns = ns} {nr = nr} {b = b} {x = z} {es = es} true l f) i d r =
      let h = hear_s p true nr in
      let one₁ = resend_by h.refused (eqb b 1) t g.k h.station one in
      let t₁ = timer_by h.refused (eqb b 1) t in
      let d₁ = status_heard true z l f (tail_back d) in
      let d₂ = resend_duplex h.refused (eqb b 1) t g.k d₁ in
      let is =
      noted_heard g Primary (state one two Open t true p s) (account pt st) _ _ h refl refl (status_unrefused p true nr (told_allowed l f (tail_back d))) in
      subst (λ y. Leads g (length es) (state one₁ es Open t₁ true h.station s) y (AfterPrimary W g one two t s pt st)) (sym is)
      (status_after true p pt d₁
      (passes n one₁ t₁ h.station (told z h pt) (omega arith) d₂.back
      (exchange_resend h.refused (eqb b 1) g.k h.station t (marked_status true ns nr b z) i) d₂ (λ w. status_room p pt nr z (allowed p nr) true st (r w))))
  passes (suc n) one {two} t p pt e (status {ns = ns} {nr = nr} {b = b} {x = z} {es = es} false l f) i d r =
      let h = hear_s p false nr in
      let one₁ = resend_by h.refused (eqb b 1) t g.k h.station one in
      let t₁ = timer_by h.refused (eqb b 1) t in
      let d₁ = status_heard false z l f (tail_back d) in
      let d₂ = resend_duplex h.refused (eqb b 1) t g.k d₁ in
      let is =
      noted_heard g Primary (state one two Open t true p s) (account pt st) _ _ h refl refl (status_unrefused p false nr (told_allowed l f (tail_back d))) in
      subst (λ y. Leads g (length es) (state one₁ es Open t₁ true h.station s) y (AfterPrimary W g one two t s pt st)) (sym is)
      (status_after false p pt d₁
      (passes n one₁ t₁ h.station (told z h pt) (omega arith) d₂.back
      (exchange_resend h.refused (eqb b 1) g.k h.station t (marked_status false ns nr b z) i) d₂ (λ w. status_room p pt nr z (allowed p nr) false st (r w))))

  pub pass_primary : {one two : List Entry} {t : Timer} {p : Station} {pt : Tally} →
      Exchange g t one two → Duplex false p pt s st one two → (W → Room p pt st) →
      Leads g (length two) (state one two Open t true p s) (account pt st) (AfterPrimary W g one two t s pt st)
  pass_primary {one} {two} {t} {p} {pt} i d r = passes (length two) one t p pt refl d.back i d r
