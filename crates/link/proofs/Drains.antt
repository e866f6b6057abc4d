-- What a drain comes to: four passes empty both ways, and two rounds have all acknowledged.
use Rattle.std.proofs.Common.{◌≡◌, ℕ, zero, suc, ◌+◌, ◌-◌, min, ◌*◌, ◌≤◌, Bool, true, false, eqb, ltb, leb, List, [], ◌∷◌, ◌++◌, length, replicate, Some, None, Ok, sym, refl, ap, subst, arith}
use Rattle.std.proofs.lemmas.Bool.{lt-ltb, le-leb, lt-leb, eq-eqb, and_from, both_ways}
use Rattle.frames.specs.declared.way.Way.{Way}
use Rattle.frames.specs.declared.way.Way.TheVariants.{One, Two}
use Rattle.lines.specs.Entries.{Entry}
use Rattle.stations.specs.declared.mode.Mode.TheVariants.{Open}
use Rattle.stations.specs.Station.{Block, Station, outstanding}
use Rattle.stations.specs.Puts.{put, put_by, status}
use Rattle.stations.specs.Primary.{Timer, tick_by}
use Rattle.link.specs.declared.drained.Drained.{Drained}
use Rattle.link.specs.declared.end.End.{End}
use Rattle.link.specs.declared.end.End.TheVariants.{Primary, Secondary}
use Rattle.link.specs.declared.part.Part.{Part}
use Rattle.link.specs.declared.part.Part.TheVariants.{Pass, Ask, Poll}
use Rattle.link.specs.State.{Measures, State, state, Model}
use Rattle.link.specs.Calls.{by_primary}
use Rattle.link.specs.Questions.{mode_of, entries_on}
use Rattle.link.specs.History.{Call, ticks, takes, run, step, Tally, Account, account, account_of}
use Rattle.link.specs.Drain.{way_to, timer_of, drain_parts, part_calls, walk, frames_of, no_calls, counted_call, counted_all, settled_at, drained}
use Rattle.link.specs.DrainPromise.{NothingWaits, AllAcknowledged, Accepted, Drains, Drainable}
use Rattle.link.proofs.Marks.{Marks, empty, marked_status, marks_any, marks_some}
use Rattle.link.proofs.Exchange.{Exchange, Quiet, NoAge, idle, asked, answered, quiet, exchange_ask, exchange_tick, exchange_out}
use Rattle.link.proofs.Flows.{flow_low}
use Rattle.link.proofs.Tallies.{Sound, unacknowledged}
use Rattle.link.proofs.Ends.{Duplex, flip, status_duplex}
use Rattle.link.proofs.Phases.{Phase, both_closed, opening, both_open, closing, half_closed}
use Rattle.link.proofs.Histories.{faultless, run_append, account_append, run_sound}
use Rattle.link.proofs.Walks.{counted_append}
use Rattle.link.proofs.Fits.{Timely, Fits, fits, fits_run}
use Rattle.link.proofs.PrimaryPasses.{slack, AfterPrimary, after_primary, pass_primary}
use Rattle.link.proofs.SecondaryPasses.{AnyAge, AfterSecondary, after_secondary, pass_secondary}
use Rattle.link.proofs.Rounds.{Ready, primary_ready, secondary_ready, Asking, asking, Replied, replied, Resent, resent, Through, through, reply, resend, finish}

-- ---- calls that lead somewhere

-- calls from the state x with the account y lead to F, with at most i ticks and j takes
pub record Leads (g : Measures) (F : State → Account → Type 0) (i j : ℕ) (x : State) (y : Account) (calls : List Call) : Type 0 where
  pub there : F (run (faultless g x) calls).now (account_of (faultless g x) y calls)
  pub ticks_most : (d : Drained) → (counted_all (faultless g x) calls d).ticks ≤ d.ticks + i
  pub takes_most : (d : Drained) → (counted_all (faultless g x) calls d).takes ≤ d.takes + j

leads_none : {g : Measures} {F : State → Account → Type 0} {x : State} {y : Account} → F x y → Leads g F 0 0 x y []
leads_none h = record { there = h; ticks_most = λ d. omega arith; takes_most = λ d. omega arith }

-- a part, and the parts behind it
leads_more : {g : Measures} {F G : State → Account → Type 0} {i i' j j' : ℕ} {x : State} {y : Account} (p : Part) (ps : List Part) →
    Leads g F i j x y (part_calls p (faultless g x)) →
    ((x : State) (y : Account) → F x y → Leads g G i' j' x y (walk ps (faultless g x))) →
    Leads g G (i + i') (j + j') x y (walk (p ∷ ps) (faultless g x))
leads_more {g} {F} {G} {i} {i'} {j} {j'} {x} {y} p ps h k =
    let l : Model = faultless g x in
    let calls : List Call = part_calls p l in
    let m : Model = run l calls in
    let z : Account = account_of l y calls in
    let e : m ≡ faultless g m.now = run_sound l refl calls in
    let r : Leads g G i' j' m.now z (walk ps (faultless g m.now)) = k m.now z h.there in
    let here : G (run m (walk ps m)).now (account_of m z (walk ps m)) =
    subst (λ n. G (run n (walk ps n)).now (account_of n z (walk ps n))) (sym e) r.there in
    record {
      there =
          subst (λ n. G n.now (account_of l y (calls ++ walk ps m))) (sym (run_append l calls (walk ps m)))
          (subst (G (run m (walk ps m)).now) (sym (account_append l y calls (walk ps m))) here);
      ticks_most = λ d.
          let a = ap (λ q. q.ticks) (counted_append l calls (walk ps m) d) in
          let b = subst (λ n. (counted_all n (walk ps n) (counted_all l calls d)).ticks ≤ (counted_all l calls d).ticks + i') (sym e) (r.ticks_most (counted_all l calls d)) in
          let c = h.ticks_most d in
          omega arith;
      takes_most = λ d.
          let a = ap (λ q. q.takes) (counted_append l calls (walk ps m) d) in
          let b = subst (λ n. (counted_all n (walk ps n) (counted_all l calls d)).takes ≤ (counted_all l calls d).takes + j') (sym e) (r.takes_most (counted_all l calls d)) in
          let c = h.takes_most d in
          omega arith;
    }

-- ---- passes

takes_counted : (l : Model) (n : ℕ) (e : End) (d : Drained) →
    ((counted_all l (replicate n (takes e)) d).ticks ≡ d.ticks) × ((counted_all l (replicate n (takes e)) d).takes ≡ d.takes + n)
takes_counted l zero e d = (refl, omega arith)
takes_counted l (suc n) e d =
    let h = takes_counted (step l (takes e)) n e (counted_call (takes e) (frames_of (takes e) l) d) in
    (omega (arith, h.0), omega (arith, h.1))

ticks_counted : (l : Model) (n : ℕ) (d : Drained) →
    ((counted_all l (replicate n ticks) d).ticks ≡ d.ticks + n) × ((counted_all l (replicate n ticks) d).takes ≡ d.takes)
ticks_counted l zero d = (omega arith, refl)
ticks_counted l (suc n) d =
    let h = ticks_counted (step l ticks) n (counted_call ticks (frames_of ticks l) d) in
    (omega (arith, h.0), omega (arith, h.1))

-- where a pass at an end leads from a state
abbrev Passing : Measures → End → State → Account → (State → Account → Type 0) → Type 0
Passing g e x y F =
    let calls = replicate (entries_on (way_to e) x) (takes e) in
    F (run (faultless g x) calls).now (account_of (faultless g x) y calls)

leads_pass : {g : Measures} {F : State → Account → Type 0} {x : State} {y : Account} (e : End) (n : ℕ) →
    entries_on (way_to e) x ≤ n → Passing g e x y F → Leads g F 0 n x y (part_calls (Pass e) (faultless g x))
leads_pass {g} {F} {x} {y} e n most h =
    let m = entries_on (way_to e) x in
    record {
      there = h;
      ticks_most = λ d. omega (arith, (takes_counted (faultless g x) m e d).0);
      takes_most = λ d. omega (arith, (takes_counted (faultless g x) m e d).1);
    }

-- W: nothing waited when the drain began; ps and ss: what the primary and the secondary had then accepted
module _ (W : Type 0) (g : Measures) (wide : 8 ≤ g.k) (large : 2 * g.d + 1 ≤ g.t) (short : g.t ≤ 10000) (ps ss : List Block) where
  -- ---- the four passes that empty both ways

  pub data Running : State → Account → Type 0 where
    running : {t : Timer} {one two : List Entry} {p s : Station} {pt st : Tally} →
        Exchange g t one two → Duplex false p pt s st one two → Ready W ps ss p s pt st →
        Fits g (state one two Open t true p s) → Running (state one two Open t true p s) (account pt st)

  data First : State → Account → Type 0 where
    first : {t : Timer} {one : List Entry} {p s : Station} {pt st : Tally} →
        Exchange g t one [] → Duplex false p pt s st one [] → Ready W ps ss p s pt st →
        Fits g (state one [] Open t true p s) → First (state one [] Open t true p s) (account pt st)

  data Second : State → Account → Type 0 where
    second : {t : Timer} {two : List Entry} {p s : Station} {pt st : Tally} →
        Exchange g t [] two → Duplex false p pt s st [] two → Ready W ps ss p s pt st → length two ≤ 8 →
        Fits g (state [] two Open t true p s) → Second (state [] two Open t true p s) (account pt st)

  data Third : State → Account → Type 0 where
    third : {t : Timer} {one : List Entry} {p s : Station} {pt st : Tally} →
        Exchange g t one [] → Duplex false p pt s st one [] → Ready W ps ss p s pt st →
        Marks g.d NoAge false one → length one ≤ 7 →
        Fits g (state one [] Open t true p s) → Third (state one [] Open t true p s) (account pt st)

  -- both ways are empty
  data Calm : State → Account → Type 0 where
    calm : {t : Timer} {p s : Station} {pt st : Tally} →
        Exchange g t [] [] → Duplex false p pt s st [] [] → Ready W ps ss p s pt st → Timely g.t t →
        Calm (state [] [] Open t true p s) (account pt st)

  still_fits : (x : State) → Fits g x → (calls : List Call) → Fits g (run (faultless g x) calls).now
  still_fits x h calls = fits_run (faultless g x) (omega arith) refl h calls

  -- at most one request or answer is on way 1
  one_marked : {t : Timer} {one two : List Entry} → Exchange g t one two → Marks g.d AnyAge true one
  one_marked (idle h j) = marks_any AnyAge true h
  one_marked (asked h j) = marks_some h
  one_marked (answered h j) = marks_any AnyAge true h

  slack_most : (t : Timer) → slack t ≤ 7
  slack_most None = omega arith
  slack_most (Some n) = omega arith

  made_first : {one two : List Entry} {t : Timer} {s : Station} {pt st : Tally} {x : State} {y : Account} →
      {p : Station} → AfterPrimary W g one two t s pt st x y → Ready W ps ss p s pt st → Fits g x → First x y
  made_first (after_primary i d r f) q fit = first i d (primary_ready q r f.accepted_same) fit

  made_second : {one : List Entry} {t : Timer} {p s : Station} {pt st : Tally} {x : State} {y : Account} →
      AfterSecondary W g [] one t p pt st x y → Ready W ps ss p s pt st → Marks g.d AnyAge true one → Fits g x → Second x y
  made_second (after_secondary i d r f) q m fit =
      second i (flip d) (secondary_ready q r f.accepted_same) (omega (arith, f.two_most m)) fit

  made_third : {two : List Entry} {t : Timer} {p s : Station} {pt st : Tally} {x : State} {y : Account} →
      AfterPrimary W g [] two t s pt st x y → Ready W ps ss p s pt st → Fits g x → Third x y
  made_third {t = t} (after_primary i d r f) q fit =
      third i d (primary_ready q r f.accepted_same) (f.one_unmarked empty) (omega (arith, f.one_most, slack_most t)) fit

  timely : {one two : List Entry} {t : Timer} {p s : Station} → Fits g (state one two Open t true p s) → Timely g.t t
  timely (fits a b c) = c

  made_calm : {one : List Entry} {t : Timer} {p s : Station} {pt st : Tally} {x : State} {y : Account} →
      AfterSecondary W g [] one t p pt st x y → Ready W ps ss p s pt st → Marks g.d NoAge false one → Fits g x → Calm x y
  made_calm {t = t} {p = p} {pt = pt} (after_secondary {two' = two'} {s' = s'} {st' = st'} i d r f) q m fit =
      let e : two' ≡ [] = f.two_same (marks_any AnyAge false m) in
      let R : List Entry → Type 0 = λ two. Calm (state [] two Open t true p s') (account pt st') in
      subst R (sym e) (calm (subst (Exchange g t []) e i) (flip (subst (λ two. Duplex false s' st' p pt two []) e d))
      (secondary_ready q r f.accepted_same) (timely fit))

  to_first : {x : State} {y : Account} → Running x y → Leads g First 0 g.k x y (part_calls (Pass Primary) (faultless g x))
  to_first (running {t = t} {one = one} {two = two} {p = p} {s = s} {pt = pt} {st = st} i d q (fits a b c)) =
      leads_pass Primary g.k b
      (made_first (pass_primary W g s st i d q.primary_room) q (still_fits (state one two Open t true p s) (fits a b c) (replicate (length two) (takes Primary))))

  to_second : {x : State} {y : Account} → First x y → Leads g Second 0 g.k x y (part_calls (Pass Secondary) (faultless g x))
  to_second (first {t = t} {one = one} {p = p} {s = s} {pt = pt} i d q (fits a b c)) =
      leads_pass Secondary g.k a
      (made_second (pass_secondary W g p pt t i (flip d) q.secondary_room) q (one_marked i) (still_fits (state one [] Open t true p s) (fits a b c) (replicate (length one) (takes Secondary))))

  to_third : {x : State} {y : Account} → Second x y → Leads g Third 0 8 x y (part_calls (Pass Primary) (faultless g x))
  to_third (second {t = t} {two = two} {p = p} {s = s} {st = st} i d q l fit) =
      leads_pass Primary 8 l
      (made_third (pass_primary W g s st i d q.primary_room) q (still_fits (state [] two Open t true p s) fit (replicate (length two) (takes Primary))))

  to_calm : {x : State} {y : Account} → Third x y → Leads g Calm 0 7 x y (part_calls (Pass Secondary) (faultless g x))
  to_calm (third {t = t} {one = one} {p = p} {s = s} {pt = pt} i d q m l fit) =
      leads_pass Secondary 7 l
      (made_calm (pass_secondary W g p pt t i (flip d) q.secondary_room) q m (still_fits (state one [] Open t true p s) fit (replicate (length one) (takes Secondary))))

  -- ---- a poll on an empty line

  asks_put : {p s : Station} {pt st : Tally} (a b : ℕ) (room : Bool) → room ≡ true →
      Exchange g (Some 0) (put_by room [] (status p)) [] → Duplex false p pt s st (put_by room [] (status p)) [] → Ready W ps ss p s pt st →
      (W → a ≤ length pt.taken) → (W → b ≤ length st.taken) →
      Asking W g ps ss a b (state (put_by room [] (status p)) [] Open (Some 0) true p s) (account pt st)
  asks_put a b false e i d r la lb = absurd (both_ways false refl e)
  asks_put a b true e i d r la lb = asking i d r la lb

  asks_now : {p s : Station} {pt st : Tally} (a b : ℕ) → Quiet g [] [] → Duplex false p pt s st [] [] → Ready W ps ss p s pt st →
      (W → a ≤ length pt.taken) → (W → b ≤ length st.taken) →
      Asking W g ps ss a b (state (put g.k [] (status p)) [] Open (Some 0) true p s) (account pt st)
  asks_now {p} a b q d r la lb =
      asks_put a b (ltb 0 g.k) (lt-ltb 0 g.k (omega arith))
      (exchange_ask (ltb 0 g.k) (status p) (marked_status (eqb (length p.waiting) 7) 0 p.vr 1 []) q) (status_duplex g.k d) r la lb

  -- ticks until the poll that is outstanding is sent again
  asks_late : {p s : Station} {pt st : Tally} (j n : ℕ) → n + suc j ≡ g.t →
      Exchange g (Some n) [] [] → Duplex false p pt s st [] [] → Ready W ps ss p s pt st →
      let l = faultless g (state [] [] Open (Some n) true p s) in
      let calls = replicate (suc j) ticks in
      Asking W g ps ss 0 0 (run l calls).now (account_of l (account pt st) calls)
  asks_late {p} {s} {pt} {st} zero n e i d r =
      let out : leb g.t (n + 1) ≡ true = le-leb g.t (n + 1) (omega arith) in
      let P : Bool → Type 0 =
      λ v. Asking W g ps ss 0 0 (by_primary (Ok (tick_by v g.k Open n p [])) (state [] [] Open (Some n) true p s)) (account pt st) in
      subst P (sym out) (asks_now 0 0 (exchange_out large (omega arith) i) d r (λ w. omega arith) (λ w. omega arith))
  asks_late {p} {s} {pt} {st} (suc j) n e i d r =
      let on : leb g.t (n + 1) ≡ false = lt-leb g.t (n + 1) (omega arith) in
      let P : Bool → Type 0 =
      λ v.
      let l = faultless g (by_primary (Ok (tick_by v g.k Open n p [])) (state [] [] Open (Some n) true p s)) in
      let calls = replicate (suc j) ticks in
      Asking W g ps ss 0 0 (run l calls).now (account_of l (account pt st) calls) in
      subst P (sym on) (asks_late j (n + 1) (omega arith) (exchange_tick i) d r)

  to_asks : {x : State} {y : Account} → Calm x y → Leads g (Asking W g ps ss 0 0) g.t 0 x y (part_calls Ask (faultless g x))
  to_asks (calm {t = None} i d r timely) =
      record {
        there = asks_now 0 0 (quiet i) d r (λ w. omega arith) (λ w. omega arith);
        ticks_most = λ d. omega arith;
        takes_most = λ d. omega arith;
      }
  to_asks (calm {t = Some n} {p = p} {s = s} {pt = pt} {st = st} i d r timely) =
      let l = faultless g (state [] [] Open (Some n) true p s) in
      let e : suc (g.t - n - 1) ≡ min g.t 10000 - n = omega arith in
      record {
        there =
            subst (λ m. Asking W g ps ss 0 0 (run l (replicate m ticks)).now (account_of l (account pt st) (replicate m ticks)))
            e (asks_late (g.t - n - 1) n (omega arith) i d r);
        ticks_most = λ d. omega (arith, (ticks_counted l (min g.t 10000 - n) d).0);
        takes_most = λ d. omega (arith, (ticks_counted l (min g.t 10000 - n) d).1);
      }

  -- ---- the rounds

  module _ (a b : ℕ) where
    to_replied : {x : State} {y : Account} → Asking W g ps ss a b x y → Leads g (Replied W g ps ss a b) 0 1 x y (part_calls (Pass Secondary) (faultless g x))
    to_replied (asking i d r la lb) = leads_pass Secondary 1 (omega arith) (reply W g wide ps ss a b (asking i d r la lb))

    to_resent : {x : State} {y : Account} → Replied W g ps ss a b x y → Leads g (Resent W g ps ss a b) 0 8 x y (part_calls (Pass Primary) (faultless g x))
    to_resent (replied i d r dl len la lb) = leads_pass Primary 8 (omega arith) (resend W g wide ps ss a b (replied i d r dl len la lb))

    to_through : {x : State} {y : Account} → Resent W g ps ss a b x y → Leads g (Through W g ps ss a b) 0 7 x y (part_calls (Pass Secondary) (faultless g x))
    to_through (resent i d r dl m len all la lb) = leads_pass Secondary 7 len (finish W g wide ps ss a b (resent i d r dl m len all la lb))

  -- the second poll tells what either end has then taken in, which is all
  to_second_poll : {x : State} {y : Account} → Through W g ps ss 0 0 x y →
      Leads g (Asking W g ps ss (length ss) (length ps)) 0 0 x y (part_calls Poll (faultless g x))
  to_second_poll (through {pt = pt} {st = st} i d r all_p all_s la lb) =
      let lp = ap length r.primary_accepted in
      let ls = ap length r.secondary_accepted in
      record {
        there = asks_now (length ss) (length ps) (quiet i) d r (λ w. omega (arith, all_p w)) (λ w. omega (arith, all_s w));
        ticks_most = λ d. omega arith;
        takes_most = λ d. omega arith;
      }

  -- ---- the end

  -- the primary is still open, both ways are empty and no poll is outstanding; what was accepted is the same; and under W
  -- nothing is outstanding, and all is acknowledged
  pub record Over (x : State) (y : Account) : Type 0 where
    pub stays_open : mode_of x ≡ Open
    pub accepted_same : Accepted ps ss y
    pub empties : (w : Way) → entries_on w x ≡ 0
    pub no_poll : timer_of x ≡ None
    pub settles : W → (settled_at x ≡ true) × AllAcknowledged y

  none_outstanding : {x : Station} {y : Tally} → Sound x y → y.acknowledged ≡ length y.accepted → eqb (outstanding x) 0 ≡ true
  none_outstanding {x} h e = eq-eqb (outstanding x) 0 (omega (arith, (unacknowledged h).unacknowledged))

  over : {x : State} {y : Account} → Through W g ps ss (length ss) (length ps) x y → Over x y
  over (through {p = p} {s = s} {pt = pt} {st = st} i d r all_p all_s la lb) =
      record {
        stays_open = refl;
        accepted_same = (r.primary_accepted, r.secondary_accepted);
        empties = none;
        no_poll = refl;
        settles = λ w.
            let lp = ap length r.primary_accepted in
            let ls = ap length r.secondary_accepted in
            let ep : pt.acknowledged ≡ length pt.accepted = omega (arith, lb w, d.left.most) in
            let es : st.acknowledged ≡ length st.accepted = omega (arith, la w, d.right.most) in
            (and_from (eqb (outstanding p) 0) (eqb (outstanding s) 0) (none_outstanding d.left ep) (none_outstanding d.right es), (ep, es));
      }
    where
      none : (w : Way) → entries_on w (state [] [] Open None true p s) ≡ 0
      none One = refl
      none Two = refl

  -- ---- the whole walk

  -- what leads on from where both ways are empty
  emptied_leads : {G : State → Account → Type 0} {i j : ℕ} (rest : List Part) →
      ((x : State) (y : Account) → Calm x y → Leads g G i j x y (walk rest (faultless g x))) →
      (x : State) (y : Account) → Running x y →
      Leads g G (0 + (0 + (0 + (0 + i)))) (g.k + (g.k + (8 + (7 + j)))) x y
      (walk (Pass Primary ∷ Pass Secondary ∷ Pass Primary ∷ Pass Secondary ∷ rest) (faultless g x))
  emptied_leads rest k x y h =
      leads_more (Pass Primary) (Pass Secondary ∷ Pass Primary ∷ Pass Secondary ∷ rest) (to_first h) (λ x y h.
      leads_more (Pass Secondary) (Pass Primary ∷ Pass Secondary ∷ rest) (to_second h) (λ x y h.
      leads_more (Pass Primary) (Pass Secondary ∷ rest) (to_third h) (λ x y h.
      leads_more (Pass Secondary) rest (to_calm h) k)))

  -- what leads on from the end of a round
  round_leads : {G : State → Account → Type 0} {i j : ℕ} (a b : ℕ) (rest : List Part) →
      ((x : State) (y : Account) → Through W g ps ss a b x y → Leads g G i j x y (walk rest (faultless g x))) →
      (x : State) (y : Account) → Asking W g ps ss a b x y →
      Leads g G (0 + (0 + (0 + i))) (1 + (8 + (7 + j))) x y (walk (Pass Secondary ∷ Pass Primary ∷ Pass Secondary ∷ rest) (faultless g x))
  round_leads a b rest k x y h =
      leads_more (Pass Secondary) (Pass Primary ∷ Pass Secondary ∷ rest) (to_replied a b h) (λ x y h.
      leads_more (Pass Primary) (Pass Secondary ∷ rest) (to_resent a b h) (λ x y h.
      leads_more (Pass Secondary) rest (to_through a b h) k))

  -- the parts from the second round on, and from the first
  abbrev second_round : List Part
  second_round = Pass Secondary ∷ Pass Primary ∷ Pass Secondary ∷ []

  abbrev first_round : List Part
  first_round = Pass Secondary ∷ Pass Primary ∷ Pass Secondary ∷ Poll ∷ second_round

  rounds_lead : (x : State) (y : Account) → Asking W g ps ss 0 0 x y → Leads g Over 0 32 x y (walk first_round (faultless g x))
  rounds_lead =
      round_leads 0 0 (Poll ∷ second_round) (λ x y h.
      leads_more Poll second_round (to_second_poll h)
      (round_leads (length ss) (length ps) [] (λ x y h. leads_none (over h))))

  pub drain_leads : (x : State) (y : Account) → Running x y → Leads g Over g.t (2 * g.k + 47) x y (walk drain_parts (faultless g x))
  drain_leads x y h =
      let r = emptied_leads (Ask ∷ first_round) (λ x y h. leads_more Ask first_round (to_asks h) rounds_lead) x y h in
      record {
        there = r.there;
        ticks_most = λ d. omega (arith, r.ticks_most d);
        takes_most = λ d. omega (arith, r.takes_most d);
      }

-- ---- what a granted drain answers

module _ (g : Measures) (wide : 8 ≤ g.k) (large : 2 * g.d + 1 ≤ g.t) (short : g.t ≤ 10000) where
  -- on an open link; where nothing waits there is room, since at most 7 are accepted and not taken in
  drains_open : {t : Timer} {one two : List Entry} {p s : Station} {pt st : Tally} →
      let x = state one two Open t true p s in
      let l = faultless g x in
      Exchange g t one two → Duplex false p pt s st one two → Fits g x → (d : Drained) → drained l (walk drain_parts l) ≡ d →
      Drains l (run l (walk drain_parts l)) d (account pt st) (account_of l (account pt st) (walk drain_parts l))
  drains_open {t} {one} {two} {p} {s} {pt} {st} i d fit a e =
      let x = state one two Open t true p s in
      let l = faultless g x in
      let calls = walk drain_parts l in
      let r =
      drain_leads (NothingWaits x) g wide large short pt.accepted st.accepted x (account pt st)
      (running i d (record {
        primary_room = λ w. record { free = omega (arith, w.0, d.right.room, flow_low d.there) };
        secondary_room = λ w. record { free = omega (arith, w.1, d.left.room, flow_low d.back) };
        primary_accepted = refl;
        secondary_accepted = refl;
      }) fit) in
      subst (λ a. Drains l (run l calls) a (account pt st) (account_of l (account pt st) calls)) e (record {
        ticks_most = omega (arith, r.ticks_most no_calls);
        takes_most = omega (arith, r.takes_most no_calls);
        stays_open = r.there.stays_open;
        accepted_same = r.there.accepted_same;
        empties = r.there.empties;
        no_poll = r.there.no_poll;
        settles = r.there.settles;
      })

  -- in every phase
  pub drainable : {x : State} {y : Account} → Phase g x y → Fits g x → Drainable (faultless g x) y
  drainable both_closed fit d e = cc
  drainable (opening i s f) fit d e = cc
  drainable (both_open {t = t} {one = one} {two = two} {p = p} {s = s} i u) fit d e =
      let l = faultless g (state one two Open t true p s) in
      let is : drained l (walk drain_parts l) ≡ d = cc in
      drains_open i u fit d is
  drainable (closing i u) fit d e = cc
  drainable (half_closed i u l) fit d e = cc
