-- A round of a drain on an empty line: a poll, its answer, what both ends send again, and what they then have taken in.
use Rattle.std.proofs.Common.{◌≡◌, ℕ, ◌+◌, ◌≤◌, Bool, true, false, eqb, ltb, List, [], ◌∷◌, length, replicate, Some, None, sym, refl, ap, ◌∙◌, subst, arith}
use Rattle.std.proofs.lemmas.Bool.{lt-ltb, both_ways}
use Rattle.frames.specs.declared.way.Way.TheVariants.{One, Two}
use Rattle.frames.specs.Parts.{parts}
use Rattle.lines.specs.Entries.{Entry, frame}
use Rattle.stations.specs.declared.mode.Mode.TheVariants.{Open}
use Rattle.stations.specs.Station.{Block, Station, passed, allowed, status_by}
use Rattle.stations.specs.Puts.{put_by, status, again_by}
use Rattle.stations.specs.Rule.{heard_s, hear_s}
use Rattle.stations.specs.Primary.{Timer, timer_by, resend_by}
use Rattle.stations.specs.Secondary.{final_by}
use Rattle.link.specs.declared.end.End.TheVariants.{Primary, Secondary}
use Rattle.link.specs.State.{Measures, State, state}
use Rattle.link.specs.Questions.{entries_on}
use Rattle.link.specs.History.{takes, run, Tally, Account, account, account_of}
use Rattle.link.proofs.Marks.{Marks, empty, marked_status, marks_any, marks_again}
use Rattle.link.proofs.Exchange.{Exchange, NoAge, exchange_final, exchange_resend}
use Rattle.link.proofs.Flows.{Tells, done, flow_low, flow_most, status_front}
use Rattle.link.proofs.Tallies.{is_allowed, reaches}
use Rattle.link.proofs.Ends.{Duplex, flip, told, status_unrefused, status_heard, tail_back, final_duplex, resend_duplex}
use Rattle.link.proofs.Takes.{noted_heard}
use Rattle.link.proofs.Histories.{faultless}
use Rattle.link.proofs.Deliveries.{Room, room_full, room_far, status_accepted, status_room, Delivers, all_there, past_status, delivers_status, window_most, again_length, again_delivers, again_head}
use Rattle.link.proofs.PrimaryPasses.{AfterPrimary, after_primary, pass_primary}
use Rattle.link.proofs.SecondaryPasses.{AnyAge, AfterSecondary, after_secondary, pass_secondary}

-- W: nothing waited when the drain began. Then there is room at either end; what either accepted stays
pub record Ready (W : Type 0) (ps ss : List Block) (p s : Station) (pt st : Tally) : Type 0 where
  pub primary_room : W → Room p pt st
  pub secondary_room : W → Room s st pt
  pub primary_accepted : pt.accepted ≡ ps
  pub secondary_accepted : st.accepted ≡ ss

-- after a pass at the primary, and at the secondary
module _ {W : Type 0} {ps ss : List Block} {p s : Station} {pt st : Tally} (h : Ready W ps ss p s pt st) where
  pub primary_ready : {p' : Station} {pt' : Tally} → (W → Room p' pt' st) → pt'.accepted ≡ pt.accepted → Ready W ps ss p' s pt' st
  primary_ready r e =
      record {
        primary_room = r;
        secondary_room = λ w. room_far e (h.secondary_room w);
        primary_accepted = e ∙ h.primary_accepted;
        secondary_accepted = h.secondary_accepted;
      }

  pub secondary_ready : {s' : Station} {st' : Tally} → (W → Room s' st' pt) → st'.accepted ≡ st.accepted → Ready W ps ss p s' pt st'
  secondary_ready r e =
      record {
        primary_room = λ w. room_far e (h.primary_room w);
        secondary_room = r;
        primary_accepted = h.primary_accepted;
        secondary_accepted = e ∙ h.secondary_accepted;
      }

-- the V(R) of x tells y what x has taken in, and is allowed at y
module _ {x : Station} {xt : Tally} {y : Station} {yt : Tally} {xy yx : List Entry} (d : Duplex false x xt y yt xy yx) where
  expected_tells : Tells x.vr yt.acknowledged (length xt.taken)
  expected_tells = record { number = sym d.left.vr_is; low = flow_low d.there }

  expected_allowed : allowed y x.vr ≡ true
  expected_allowed = is_allowed d.right expected_tells (flow_most d.back)

module _ (W : Type 0) (g : Measures) (ps ss : List Block) (a b : ℕ) where
  -- the poll is on its way; the primary has taken in at least a blocks, and the secondary b
  pub data Asking : State → Account → Type 0 where
    asking : {p s : Station} {pt st : Tally} →
        Exchange g (Some 0) (frame 0 (status p) ∷ []) [] → Duplex false p pt s st (frame 0 (status p) ∷ []) [] →
        Ready W ps ss p s pt st → (W → a ≤ length pt.taken) → (W → b ≤ length st.taken) →
        Asking (state (frame 0 (status p) ∷ []) [] Open (Some 0) true p s) (account pt st)

  -- the answer is on its way, with all that the secondary has outstanding behind it
  pub data Replied : State → Account → Type 0 where
    replied : {p s : Station} {pt st : Tally} {es : List Entry} →
        Exchange g (Some 0) [] (frame 0 (status s) ∷ es) → Duplex false p pt s st [] (frame 0 (status s) ∷ es) →
        Ready W ps ss p s pt st → (W → Delivers (length st.accepted) (length pt.taken) es) → length es ≤ 7 →
        (W → a ≤ st.acknowledged) → (W → b ≤ length st.taken) →
        Replied (state [] (frame 0 (status s) ∷ es) Open (Some 0) true p s) (account pt st)

  -- the primary has taken in all, and sent again what it has outstanding
  pub data Resent : State → Account → Type 0 where
    resent : {p s : Station} {pt st : Tally} {one : List Entry} →
        Exchange g None one [] → Duplex false p pt s st one [] → Ready W ps ss p s pt st →
        (W → Delivers (length pt.accepted) (length st.taken) one) → Marks g.d NoAge false one → length one ≤ 7 →
        (W → length pt.taken ≡ length st.accepted) → (W → a ≤ st.acknowledged) → (W → b ≤ pt.acknowledged) →
        Resent (state one [] Open None true p s) (account pt st)

  -- both ways are empty, and both ends have taken in all
  pub data Through : State → Account → Type 0 where
    through : {p s : Station} {pt st : Tally} →
        Exchange g None [] [] → Duplex false p pt s st [] [] → Ready W ps ss p s pt st →
        (W → length pt.taken ≡ length st.accepted) → (W → length st.taken ≡ length pt.accepted) →
        (W → a ≤ st.acknowledged) → (W → b ≤ pt.acknowledged) →
        Through (state [] [] Open None true p s) (account pt st)

module _ (W : Type 0) (g : Measures) (wide : 8 ≤ g.k) (ps ss : List Block) (a b : ℕ) where
  -- ---- the secondary takes the poll

  reply_put : {p s : Station} {pt st : Tally} (room : Bool) → room ≡ true →
      Exchange g (Some 0) [] (again_by s.busy g.k s (put_by room [] (status s))) →
      Duplex false s st p pt (again_by s.busy g.k s (put_by room [] (status s))) [] → Ready W ps ss p s pt st →
      st.acknowledged ≡ length pt.taken → length pt.taken ≤ length st.accepted →
      (W → s.busy ≡ true → length st.accepted ≤ length pt.taken) →
      (W → a ≤ length pt.taken) → (W → b ≤ length st.taken) →
      Replied W g ps ss a b (state [] (again_by s.busy g.k s (put_by room [] (status s))) Open (Some 0) true p s) (account pt st)
  reply_put false e i d r q top silent la lb = absurd (both_ways false refl e)
  reply_put {p} {s} {pt} {st} true e i d r q top silent la lb =
      let k = g.k in
      let w = eqb (length s.waiting) 7 in
      let h = again_head s.busy k s (frame 0 (status s)) in
      let fs = h.0 in
      let is : again_by s.busy k s (frame 0 (status s) ∷ []) ≡ frame 0 (status s) ∷ fs = h.1 in
      let all : W → Delivers (length st.accepted) (length pt.taken) (again_by s.busy k s (frame 0 (status s) ∷ [])) =
      λ v. again_delivers pt d.left k wide s.busy (frame 0 (status s) ∷ []) (omega arith) q top (silent v) (past_status w (all_there refl)) in
      let len : length (again_by s.busy k s (frame 0 (status s) ∷ [])) ≤ 8 =
      again_length s.busy k s (frame 0 (status s) ∷ []) (window_most d.left) in
      let l = ap length is in
      let R : List Entry → Type 0 = λ two. Replied W g ps ss a b (state [] two Open (Some 0) true p s) (account pt st) in
      subst R (sym is) (replied (subst (Exchange g (Some 0) []) is i) (flip (subst (λ two. Duplex false s st p pt two []) is d)) r
      (λ v. delivers_status w (subst (Delivers (length st.accepted) (length pt.taken)) is (all v))) (omega (arith, l, len)) (λ v. let m = la v in omega arith) lb)

  reply_heard : {p : Station} (s : Station) {pt : Tally} (st : Tally) (busy : Bool) (nr : ℕ) (v : Bool) → v ≡ true →
      let h = heard_s v s busy nr in
      Exchange g (Some 0) [] (final_by h.refused true g.k h.station []) →
      Duplex false h.station (told [] h st) p pt (final_by h.refused true g.k h.station []) [] →
      Ready W ps ss p h.station pt (told [] h st) →
      st.acknowledged + passed s nr ≡ length pt.taken → length pt.taken ≤ length st.accepted →
      (W → busy ≡ true → length st.accepted ≤ length pt.taken) →
      (W → a ≤ length pt.taken) → (W → b ≤ length st.taken) →
      Replied W g ps ss a b (state [] (final_by h.refused true g.k h.station []) Open (Some 0) true p h.station) (account pt (told [] h st))
  reply_heard s st busy nr false e i d r q top silent la lb = absurd (both_ways false refl e)
  reply_heard s st busy nr true e i d r q top silent la lb =
      reply_put (ltb 0 g.k) (lt-ltb 0 g.k (omega arith)) i d r q top silent la lb

  -- the poll tells the secondary what the primary has taken in; w: is the primary's status RNR?
  reply_by : {p s : Station} {pt st : Tally} (w : Bool) → eqb (length p.waiting) 7 ≡ w →
      let f = parts (status_by w) 0 p.vr 1 [] in
      let h = hear_s s w p.vr in
      Exchange g (Some 0) (frame 0 f ∷ []) [] → Duplex false p pt s st (frame 0 f ∷ []) [] → Ready W ps ss p s pt st →
      (W → a ≤ length pt.taken) → (W → b ≤ length st.taken) →
      Replied W g ps ss a b (state [] (final_by h.refused true g.k h.station []) Open (Some 0) true p h.station) (account pt (told [] h st))
  reply_by {p} {s} {pt} {st} w e i d r la lb =
      let n = p.vr in
      let h = hear_s s w n in
      let v = allowed s n in
      let top = flow_most d.back in
      let t = expected_tells d in
      let d₁ = status_heard w [] t (done (omega arith) (flow_most d.there)) (tail_back (flip d)) in
      reply_heard s st w n v (is_allowed d.right t top)
      (exchange_final h.refused true g.k h.station (marked_status w 0 n 1 []) i)
      (final_duplex h.refused true g.k d₁)
      (secondary_ready r (λ x. status_room s st n [] v w pt (r.secondary_room x)) (status_accepted s st n [] v w))
      (reaches d.right t top) top (λ x y. room_full (r.primary_room x) (e ∙ y)) la lb

  pub reply : {x : State} {y : Account} → Asking W g ps ss a b x y →
      let calls = takes Secondary ∷ [] in
      Replied W g ps ss a b (run (faultless g x) calls).now (account_of (faultless g x) y calls)
  reply (asking {p = p} {s = s} {pt = pt} {st = st} i d r la lb) = go (eqb (length p.waiting) 7) refl i d
    where
      polled : Bool → List Entry
      polled w = frame 0 (parts (status_by w) 0 p.vr 1 []) ∷ []

      After : Bool → Account → Type 0
      After w y =
          let h = hear_s s w p.vr in
          Replied W g ps ss a b (state [] (final_by h.refused true g.k h.station []) Open (Some 0) true p h.station) y

      go : (w : Bool) → eqb (length p.waiting) 7 ≡ w →
          let l = faultless g (state (polled w) [] Open (Some 0) true p s) in
          let calls = takes Secondary ∷ [] in
          Exchange g (Some 0) (polled w) [] → Duplex false p pt s st (polled w) [] →
          Replied W g ps ss a b (run l calls).now (account_of l (account pt st) calls)
      go true e i d =
          subst (After true) (sym (noted_heard g Secondary (state (polled true) [] Open (Some 0) true p s) (account pt st) _ _
          (hear_s s true p.vr) refl refl (status_unrefused s true p.vr (expected_allowed d)))) (reply_by true e i d r la lb)
      go false e i d =
          subst (After false) (sym (noted_heard g Secondary (state (polled false) [] Open (Some 0) true p s) (account pt st) _ _
          (hear_s s false p.vr) refl refl (status_unrefused s false p.vr (expected_allowed d)))) (reply_by false e i d r la lb)

  -- ---- the primary takes the final, and what the secondary sent again

  -- the rest of the pass, once the final is heard
  resent_rest : {p s : Station} {pt st : Tally} {es one : List Entry} {x : State} {y : Account} →
      AfterPrimary W g one es None s pt st x y → Ready W ps ss p s pt st →
      (W → Delivers (length pt.accepted) (length st.taken) one) → Marks g.d NoAge false one → length one ≤ 7 →
      (W → Delivers (length st.accepted) (length pt.taken) es) → (W → a ≤ st.acknowledged) → (W → b ≤ pt.acknowledged) →
      Resent W g ps ss a b x y
  resent_rest {s = s} {pt = pt} {st = st} {one = one} (after_primary {one' = one'} {t' = t'} {p' = p'} {pt' = pt'} i d r f) h dl m len din la lb =
      let u = f.one_same refl in
      let eo : one' ≡ one = u.0 in
      let et : t' ≡ None = u.1 in
      let same = ap length f.accepted_same in
      let l = ap length eo in
      let delivers : W → Delivers (length pt'.accepted) (length st.taken) one' =
      λ w. subst (λ n. Delivers n (length st.taken) one') (sym same) (subst (Delivers (length pt.accepted) (length st.taken)) (sym eo) (dl w)) in
      let R : Timer → Type 0 = λ t. Resent W g ps ss a b (state one' [] Open t true p' s) (account pt' st) in
      subst R (sym et) (resent (subst (λ t. Exchange g t one' []) et i) d (primary_ready h r f.accepted_same)
      delivers (f.one_unmarked m) (omega arith) (λ w. f.all_in w (din w)) la (λ w. let n = lb w in omega (arith, f.acknowledged_more)))

  -- where the final leads: the primary sends again what it has outstanding
  resent_heard : (p : Station) {s : Station} (pt : Tally) {st : Tally} {es : List Entry} (busy : Bool) (nr : ℕ) (v : Bool) → v ≡ true →
      let h = heard_s v p busy nr in
      let one = resend_by h.refused true (Some 0) g.k h.station [] in
      let t = timer_by h.refused true (Some 0) in
      let l = faultless g (state one es Open t true h.station s) in
      let calls = replicate (length es) (takes Primary) in
      Exchange g t one es → Duplex false h.station (told [] h pt) s st one es → Ready W ps ss h.station s (told [] h pt) st →
      pt.acknowledged + passed p nr ≡ length st.taken → length st.taken ≤ length pt.accepted →
      (W → busy ≡ true → length pt.accepted ≤ length st.taken) →
      (W → Delivers (length st.accepted) (length pt.taken) es) →
      (W → a ≤ st.acknowledged) → (W → b ≤ length st.taken) →
      Resent W g ps ss a b (run l calls).now (account_of l (account (told [] h pt) st) calls)
  resent_heard p pt busy nr false e i d r q top silent din la lb = absurd (both_ways false refl e)
  resent_heard p {s} pt {st} {es} busy nr true e i d r q top silent din la lb =
      let h = heard_s true p busy nr in
      resent_rest (pass_primary W g s st i d r.primary_room) r
      (λ w. again_delivers st d.left g.k wide busy [] (omega arith) q top (silent w) (all_there refl))
      (marks_again busy g.k h.station NoAge false empty) (again_length busy g.k h.station [] (window_most d.left))
      din la (λ w. let n = lb w in omega arith)

  pub resend : {x : State} {y : Account} → Replied W g ps ss a b x y →
      let calls = replicate (entries_on Two x) (takes Primary) in
      Resent W g ps ss a b (run (faultless g x) calls).now (account_of (faultless g x) y calls)
  resend (replied {p = p} {s = s} {pt = pt} {st = st} {es = es} i d r dl len la lb) = go (eqb (length s.waiting) 7) refl i d
    where
      answered : Bool → List Entry
      answered w = frame 0 (parts (status_by w) 0 s.vr 1 []) ∷ es

      -- after the final, and after the rest of the pass
      After : Bool → Account → Type 0
      After w y =
          let h = hear_s p w s.vr in
          let one = resend_by h.refused true (Some 0) g.k h.station [] in
          let l = faultless g (state one es Open (timer_by h.refused true (Some 0)) true h.station s) in
          let calls = replicate (length es) (takes Primary) in
          Resent W g ps ss a b (run l calls).now (account_of l y calls)

      by : (w : Bool) → eqb (length s.waiting) 7 ≡ w →
          Exchange g (Some 0) [] (answered w) → Duplex false p pt s st [] (answered w) → After w (account (told [] (hear_s p w s.vr) pt) st)
      by w e i d =
          let n = s.vr in
          let h = hear_s p w n in
          let v = allowed p n in
          let top = flow_most d.there in
          let t = expected_tells (flip d) in
          let f = status_front w d.back refl in
          let d₁ = status_heard w [] f.1 f.2 (tail_back d) in
          resent_heard p pt w n v (is_allowed d.left t top)
          (exchange_resend h.refused true g.k h.station (Some 0) (marked_status w 0 n 1 []) i)
          (resend_duplex h.refused true (Some 0) g.k d₁)
          (primary_ready r (λ x. status_room p pt n [] v w st (r.primary_room x)) (status_accepted p pt n [] v w))
          (reaches d.left t top) top (λ x y. room_full (r.secondary_room x) (e ∙ y)) dl la lb

      go : (w : Bool) → eqb (length s.waiting) 7 ≡ w →
          let l = faultless g (state [] (answered w) Open (Some 0) true p s) in
          let calls = takes Primary ∷ replicate (length es) (takes Primary) in
          Exchange g (Some 0) [] (answered w) → Duplex false p pt s st [] (answered w) →
          Resent W g ps ss a b (run l calls).now (account_of l (account pt st) calls)
      go true e i d =
          subst (After true) (sym (noted_heard g Primary (state [] (answered true) Open (Some 0) true p s) (account pt st) _ _
          (hear_s p true s.vr) refl refl (status_unrefused p true s.vr (expected_allowed (flip d))))) (by true e i d)
      go false e i d =
          subst (After false) (sym (noted_heard g Primary (state [] (answered false) Open (Some 0) true p s) (account pt st) _ _
          (hear_s p false s.vr) refl refl (status_unrefused p false s.vr (expected_allowed (flip d))))) (by false e i d)

  -- ---- the secondary takes what the primary sent again

  pub finish : {x : State} {y : Account} → Resent W g ps ss a b x y →
      let calls = replicate (entries_on One x) (takes Secondary) in
      Through W g ps ss a b (run (faultless g x) calls).now (account_of (faultless g x) y calls)
  finish (resent {p = p} {s = s} {pt = pt} {st = st} {one = one} i d r dl m len all la lb) =
      go (pass_secondary W g p pt None i (flip d) r.secondary_room)
    where
      go : {x : State} {y : Account} → AfterSecondary W g [] one None p pt st x y → Through W g ps ss a b x y
      go (after_secondary {two' = two'} {s' = s'} {st' = st'} i d k f) =
          let e : two' ≡ [] = f.two_same (marks_any AnyAge false m) in
          let same = ap length f.accepted_same in
          let R : List Entry → Type 0 = λ two. Through W g ps ss a b (state [] two Open None true p s') (account pt st') in
          subst R (sym e) (through (subst (Exchange g None []) e i) (flip (subst (λ two. Duplex false s' st' p pt two []) e d))
          (secondary_ready r k f.accepted_same)
          (λ w. all w ∙ sym same) (λ w. f.all_in w (dl w)) (λ w. let n = la w in omega (arith, f.acknowledged_more)) lb)
