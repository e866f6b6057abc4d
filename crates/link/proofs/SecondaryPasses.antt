-- A pass at the secondary: what it takes in, and what it leaves on way 2.
use Rattle.std.proofs.Common.{◌≡◌, ℕ, zero, suc, ◌+◌, ◌≤◌, Bool, true, false, eqb, ltb, List, [], ◌∷◌, length, replicate, sym, refl, ap, ◌∙◌, subst, arith}
use Rattle.frames.specs.declared.kind.Kind.TheVariants.{I}
use Rattle.frames.specs.Parts.{Parts, parts}
use Rattle.lines.specs.Entries.{Entry, frame}
use Rattle.stations.specs.declared.mode.Mode.TheVariants.{Open}
use Rattle.stations.specs.Station.{Block, Station, allowed, wanted, status_by}
use Rattle.stations.specs.Puts.{no_counts, put, status}
use Rattle.stations.specs.Rule.{hear_i, hear_s}
use Rattle.stations.specs.Primary.{Timer}
use Rattle.stations.specs.Secondary.{final_by}
use Rattle.link.specs.declared.end.End.TheVariants.{Secondary}
use Rattle.link.specs.State.{Measures, State, state}
use Rattle.link.specs.History.{takes, run, Tally, Account, account, account_of}
use Rattle.link.proofs.Marks.{marked, marked_status, Marks, marks_after, no_mark, marks_tail}
use Rattle.link.proofs.Exchange.{Exchange, exchange_one, exchange_final}
use Rattle.link.proofs.Flows as flow
use Rattle.link.proofs.Flows.{done, skip, info}
use Rattle.link.proofs.Ends.{Between, Duplex, told, info_unrefused, status_unrefused, told_allowed, status_heard, info_heard, tail_back, final_duplex}
use Rattle.link.proofs.Takes.{noted_heard}
use Rattle.link.proofs.Histories.{faultless}
use Rattle.link.proofs.Deliveries.{Room, info_accepted, info_acknowledged, info_room, status_accepted, status_acknowledged, status_taken, status_room, Delivers, delivers_end, delivers_struck, delivers_info, delivers_status, info_next, window_most, put_length, again_length}

-- at most one request or answer, of whatever age
abbrev pub AnyAge : ℕ → Type 0
AnyAge a = Unit {0}

module _ (k : ℕ) (x : Station) where
  final_length : (refused poll : Bool) (es : List Entry) → length x.window ≤ 7 →
      length (final_by refused poll k x es) ≤ length es + 8
  final_length true poll es h = omega arith
  final_length false false es h = omega arith
  final_length false true es h =
      let l = again_length x.busy k x (put k es (status x)) h in
      omega (arith, put_length (ltb (length es) k) es (status x))

  final_none : (refused : Bool) (es : List Entry) → final_by refused false k x es ≡ es
  final_none true es = refl
  final_none false es = refl

-- from way 2, the entries of way 1 and the secondary's tally, to way 2 and the tally then; W is what the room at the
-- secondary is known under
pub record Passed (W : Type 0) (g : Measures) (two two' one : List Entry) (st st' pt : Tally) : Type 0 where
  pub accepted_same : st'.accepted ≡ st.accepted
  pub acknowledged_more : st.acknowledged ≤ st'.acknowledged
  pub two_most : Marks g.d AnyAge true one → length two' ≤ length two + 8
  pub two_same : Marks g.d AnyAge false one → two' ≡ two
  pub all_in : W → Delivers (length pt.accepted) (length st.taken) one → length st'.taken ≡ length pt.accepted

-- the state and the account after a pass at the secondary
pub data AfterSecondary (W : Type 0) (g : Measures) (two one : List Entry) (t : Timer) (p : Station) (pt st : Tally) : State → Account → Type 0 where
  after_secondary : {two' : List Entry} {s' : Station} {st' : Tally} →
      Exchange g t [] two' → Duplex false s' st' p pt two' [] → (W → Room s' st' pt) → Passed W g two two' one st st' pt →
      AfterSecondary W g two one t p pt st (state [] two' Open t true p s') (account pt st')

again_after : {W : Type 0} {g : Measures} {two two₁ one one₁ : List Entry} {t : Timer} {p : Station} {pt st st₁ : Tally} {x : State} {y : Account} →
    ((two' : List Entry) (st' : Tally) → Passed W g two₁ two' one₁ st₁ st' pt → Passed W g two two' one st st' pt) →
    AfterSecondary W g two₁ one₁ t p pt st₁ x y → AfterSecondary W g two one t p pt st x y
again_after k (after_secondary i d r f) = after_secondary i d r (k _ _ f)

-- where n takes at the secondary lead
abbrev Leads : Measures → ℕ → State → Account → (State → Account → Type 0) → Type 0
Leads g n x y F =
    F (run (faultless g x) (replicate n (takes Secondary))).now (account_of (faultless g x) y (replicate n (takes Secondary)))

-- a frame at the front that may be a poll: only a poll is answered, by at most 8 frames
module _ (g : Measures) (refused : Bool) (x : Station) (small : length x.window ≤ 7) (two : List Entry)
    {a : ℕ} {f : Parts} {es two' : List Entry} where
  status_most : (poll : Bool) → marked f ≡ poll →
      (Marks g.d AnyAge true es → length two' ≤ length (final_by refused poll g.k x two) + 8) →
      (Marks g.d AnyAge false es → two' ≡ final_by refused poll g.k x two) →
      Marks g.d AnyAge true (frame a f ∷ es) → length two' ≤ length two + 8
  status_most true m most same w =
      let l = ap length (same (marks_after true m w)) in omega (arith, l, final_length g.k x refused true two small)
  status_most false m most same w =
      let l = ap length (final_none g.k x refused two) in omega (arith, l, most (marks_tail AnyAge true w))

  status_same : (poll : Bool) → marked f ≡ poll →
      (Marks g.d AnyAge false es → two' ≡ final_by refused poll g.k x two) →
      Marks g.d AnyAge false (frame a f ∷ es) → two' ≡ two
  status_same true m same w = absurd (no_mark m w)
  status_same false m same w = same (marks_tail AnyAge false w) ∙ final_none g.k x refused two

module _ (W : Type 0) (g : Measures) (p : Station) (pt : Tally) (t : Timer) where
  -- RR or RNR at the front
  status_after : (busy : Bool) (s : Station) (st : Tally) {a ns nr b : ℕ} {z : Block} {es two : List Entry} {x : State} {y : Account} →
      let h = hear_s s busy nr in
      Duplex false h.station (told z h st) p pt two es →
      AfterSecondary W g (final_by h.refused (eqb b 1) g.k h.station two) es t p pt (told z h st) x y →
      AfterSecondary W g two (frame a (parts (status_by busy) ns nr b z) ∷ es) t p pt st x y
  status_after busy s st {ns = ns} {nr = nr} {b = b} {z = z} {es = es} {two = two} d r =
      let h = hear_s s busy nr in
      let v = allowed s nr in
      let small = window_most d.left in
      again_after (λ two' st' k. record {
        accepted_same = k.accepted_same ∙ status_accepted s st nr z v busy;
        acknowledged_more = omega (arith, k.acknowledged_more, status_acknowledged s st nr z v busy);
        two_most =
            status_most g h.refused h.station small two (eqb b 1) (marked_status busy ns nr b z) k.two_most k.two_same;
        two_same = status_same g h.refused h.station small two (eqb b 1) (marked_status busy ns nr b z) k.two_same;
        all_in = λ w c.
            k.all_in w (subst (λ u. Delivers (length pt.accepted) (length u) es) (sym (status_taken s st nr z v busy)) (delivers_status busy c));
      }) r

  -- by the number of entries
  passes : (n : ℕ) {one : List Entry} (two : List Entry) (s : Station) (st : Tally) → length one ≡ n →
      Between false pt st one → Exchange g t one two → Duplex false s st p pt two one → (W → Room s st pt) →
      Leads g (length one) (state one two Open t true p s) (account pt st) (AfterSecondary W g two one t p pt st)
  passes n two s st e (done l h) i d r =
      after_secondary i d r (record {
        accepted_same = refl;
        acknowledged_more = omega arith;
        two_most = λ w. omega arith;
        two_same = λ w. refl;
        all_in = λ w c. delivers_end c;
      })
  passes zero two s st e (skip f) i d r = absurd (omega arith)
  passes zero two s st e (info c l f) i d r = absurd (omega arith)
  passes zero two s st e (flow.status busy l f) i d r = absurd (omega arith)
  passes (suc n) two s st e (skip f) i d r =
      let d' = tail_back d in
      again_after (λ two' st' k. record {
        accepted_same = k.accepted_same;
        acknowledged_more = k.acknowledged_more;
        two_most = λ w. k.two_most (marks_tail AnyAge true w);
        two_same = λ w. k.two_same (marks_tail AnyAge false w);
        all_in = λ w c. k.all_in w (delivers_struck c);
      })
      (passes n two s st (omega arith) d'.back (exchange_one marks_tail i) d' r)
  passes (suc n) {one} two s st e (info {ns = ns} {nr = nr} {b = b} {x = z} {es = es} c l f) i d r =
      let h = hear_i s ns nr z in
      let v = allowed s nr in
      let ok = told_allowed l f (tail_back d) in
      let d' = info_heard c l f (tail_back d) in
      let is =
      noted_heard g Secondary (state one two Open t true p s) (account pt st) (parts I ns nr b z) no_counts h refl refl (info_unrefused s ns nr z ok) in
      subst (λ y. Leads g (length es) (state es two Open t true p h.station) y (AfterSecondary W g two one t p pt st)) (sym is)
      (again_after (λ two' st' k. record {
        accepted_same = k.accepted_same ∙ info_accepted s st nr z v (wanted s ns);
        acknowledged_more = omega (arith, k.acknowledged_more, info_acknowledged s st nr z v (wanted s ns));
        two_most = λ w. k.two_most (marks_tail AnyAge true w);
        two_same = λ w. k.two_same (marks_tail AnyAge false w);
        all_in = λ w c.
            let q = delivers_info c in
            k.all_in w (subst (λ u. Delivers (length pt.accepted) u es) (sym (info_next ns nr z ok d.left (r w) q.0 q.1)) q.2);
      })
      (passes n two h.station (told z h st) (omega arith) d'.back (exchange_one marks_tail i) d' (λ w. info_room s st nr z v (wanted s ns) pt (r w))))
  passes (suc n) {one} two s st e (flow.status {ns = ns} {nr = nr} {b = b} {x = z} {es = es} true l f) i d r =
      let h = hear_s s true nr in
      let two₁ = final_by h.refused (eqb b 1) g.k h.station two in
      let d₁ = status_heard true z l f (tail_back d) in
      let d₂ = final_duplex h.refused (eqb b 1) g.k d₁ in
      let is =
      noted_heard g Secondary (state one two Open t true p s) (account pt st) _ _ h refl refl (status_unrefused s true nr (told_allowed l f (tail_back d))) in
      subst (λ y. Leads g (length es) (state es two₁ Open t true p h.station) y (AfterSecondary W g two one t p pt st)) (sym is)
      (status_after true s st d₁
      (passes n two₁ h.station (told z h st) (omega arith) d₂.back
      (exchange_final h.refused (eqb b 1) g.k h.station (marked_status true ns nr b z) i) d₂ (λ w. status_room s st nr z (allowed s nr) true pt (r w))))
  passes (suc n) {one} two s st e (flow.status {ns = ns} {nr = nr} {b = b} {x = z} {es = es} false l f) i d r =
      let h = hear_s s false nr in
      let two₁ = final_by h.refused (eqb b 1) g.k h.station two in
      let d₁ = status_heard false z l f (tail_back d) in
      let d₂ = final_duplex h.refused (eqb b 1) g.k d₁ in
      let is =
      noted_heard g Secondary (state one two Open t true p s) (account pt st) _ _ h refl refl (status_unrefused s false nr (told_allowed l f (tail_back d))) in
      subst (λ y. Leads g (length es) (state es two₁ Open t true p h.station) y (AfterSecondary W g two one t p pt st)) (sym is)
      (status_after false s st d₁
      (passes n two₁ h.station (told z h st) (omega arith) d₂.back
      (exchange_final h.refused (eqb b 1) g.k h.station (marked_status false ns nr b z) i) d₂ (λ w. status_room s st nr z (allowed s nr) false pt (r w))))

  pub pass_secondary : {one two : List Entry} {s : Station} {st : Tally} →
      Exchange g t one two → Duplex false s st p pt two one → (W → Room s st pt) →
      Leads g (length one) (state one two Open t true p s) (account pt st) (AfterSecondary W g two one t p pt st)
  pass_secondary {one} {two} {s} {st} i d r = passes (length one) two s st refl d.back i d r
