-- A way never holds more than K entries, and a running timer never reaches T.
use Rattle.std.proofs.Common.{◌≡◌, ℕ, ◌+◌, ◌%◌, ◌<◌, ◌≤◌, Bool, true, false, eqb, ltb, leb, List, [], ◌∷◌, length, Some, None, Option, sym, refl, subst, arith}
use Rattle.std.proofs.lemmas.List.{length_push}
use Rattle.std.proofs.lemmas.Bool.{ltb-true, leb-false}
use Rattle.frames.specs.declared.kind.Kind.TheVariants.{I, Rr, Rnr, Sarm, Disc, Ua, Dm}
use Rattle.frames.specs.declared.way.Way.TheVariants.{One, Two}
use Rattle.frames.specs.Parts.{Parts, parts}
use Rattle.lines.specs.Entries.{Entry, struck, frame}
use Rattle.lines.specs.Line.{older}
use Rattle.stations.specs.declared.mode.Mode.{Mode}
use Rattle.stations.specs.declared.mode.Mode.TheVariants.{Closed, Opening, Open, Closing}
use Rattle.stations.specs.declared.refusal.StationRefusal.{StationRefusal}
use Rattle.stations.specs.Station.{Block, Station, send_check}
use Rattle.stations.specs.Puts.{put, put_by, plain, inform, status, again_from, again_by}
use Rattle.stations.specs.Rule.{hear_s}
use Rattle.stations.specs.Primary as primary
use Rattle.stations.specs.Primary.{Timer, timer_by, resend_by, primary_hears, tick_by, due, is_open}
use Rattle.stations.specs.Secondary as secondary
use Rattle.stations.specs.Secondary.{final_by, secondary_hears}
use Rattle.link.specs.declared.end.End.TheVariants.{Primary, Secondary}
use Rattle.link.specs.State.{Measures, State, state, Model}
use Rattle.link.specs.Calls.{by_primary, by_secondary, struck_way, held_by}
use Rattle.link.specs.History.{Call, opens, closes, polls, ticks, sends, takes, fetches, strikes, leaves, step, run}
use Rattle.link.proofs.Thinning.{thin_length, thin_older, thin_strike}

-- a running timer is below T
abbrev pub Timely : ℕ → Timer → Type 0
Timely limit None = Unit {0}
Timely limit (Some n) = n < limit

pub data Fits (g : Measures) : State → Type 0 where
  fits : {one two : List Entry} {m : Mode} {t : Timer} {u : Bool} {p s : Station} →
      length one ≤ g.k → length two ≤ g.k → Timely g.t t → Fits g (state one two m t u p s)

-- ---- what is put fits

module _ (k : ℕ) where
  put_fits : (es : List Entry) (f : Parts) → length es ≤ k → length (put k es f) ≤ k
  put_fits es f h = go (ltb (length es) k) refl
    where
      go : (room : Bool) → ltb (length es) k ≡ room → length (put_by room es f) ≤ k
      go true e = omega (arith, length_push es (frame 0 f), ltb-true (length es) k e)
      go false e = h

  again_from_fits : (x : Station) (ns : ℕ) (zs : List Block) (es : List Entry) →
      length es ≤ k → length (again_from k x ns zs es) ≤ k
  again_from_fits x ns [] es h = h
  again_from_fits x ns (z ∷ zs) es h =
      again_from_fits x ((ns + 1) % 8) zs (put k es (inform x ns z)) (put_fits es (inform x ns z) h)

  again_fits : (busy : Bool) (x : Station) (es : List Entry) → length es ≤ k → length (again_by busy k x es) ≤ k
  again_fits true x es h = h
  again_fits false x es h = again_from_fits x x.va x.window es h

  final_fits : (refused poll : Bool) (x : Station) (es : List Entry) →
      length es ≤ k → length (final_by refused poll k x es) ≤ k
  final_fits true poll x es h = h
  final_fits false false x es h = h
  final_fits false true x es h = again_fits x.busy x (put k es (status x)) (put_fits es (status x) h)

  resend_fits : (refused final : Bool) (t : Timer) (x : Station) (es : List Entry) →
      length es ≤ k → length (resend_by refused final t k x es) ≤ k
  resend_fits true final t x es h = h
  resend_fits false false t x es h = h
  resend_fits false true None x es h = h
  resend_fits false true (Some n) x es h = again_fits x.busy x es h

timer_timely : (limit : ℕ) (refused final : Bool) (t : Timer) → Timely limit t → Timely limit (timer_by refused final t)
timer_timely limit true final t h = h
timer_timely limit false false t h = h
timer_timely limit false true t h = tt

-- ---- takes

primary_fits : (g : Measures) (m : Mode) (t : Timer) (p : Station) (f : Parts) (one : List Entry) →
    length one ≤ g.k → Timely g.t t →
    (length (primary_hears g.k m t p f one).out ≤ g.k) × Timely g.t (primary_hears g.k m t p f one).timer
primary_fits g Closed t p (parts Ua ns nr b z) one h w = (h, w)
primary_fits g Opening t p (parts Ua ns nr b z) one h w = (h, tt)
primary_fits g Open t p (parts Ua ns nr b z) one h w = (h, w)
primary_fits g Closing t p (parts Ua ns nr b z) one h w = (h, tt)
primary_fits g Closed t p (parts Dm ns nr b z) one h w = (h, w)
primary_fits g Opening t p (parts Dm ns nr b z) one h w = (h, w)
primary_fits g Open t p (parts Dm ns nr b z) one h w = (h, w)
primary_fits g Closing t p (parts Dm ns nr b z) one h w = (h, tt)
primary_fits g Closed t p (parts I ns nr b z) one h w = (h, w)
primary_fits g Opening t p (parts I ns nr b z) one h w = (h, w)
primary_fits g Open t p (parts I ns nr b z) one h w = (h, w)
primary_fits g Closing t p (parts I ns nr b z) one h w = (h, w)
primary_fits g Closed t p (parts Rr ns nr b z) one h w = (h, w)
primary_fits g Opening t p (parts Rr ns nr b z) one h w = (h, w)
primary_fits g Open t p (parts Rr ns nr b z) one h w =
    let r = hear_s p false nr in
    (resend_fits g.k r.refused (eqb b 1) t r.station one h, timer_timely g.t r.refused (eqb b 1) t w)
primary_fits g Closing t p (parts Rr ns nr b z) one h w = (h, w)
primary_fits g Closed t p (parts Rnr ns nr b z) one h w = (h, w)
primary_fits g Opening t p (parts Rnr ns nr b z) one h w = (h, w)
primary_fits g Open t p (parts Rnr ns nr b z) one h w =
    let r = hear_s p true nr in
    (resend_fits g.k r.refused (eqb b 1) t r.station one h, timer_timely g.t r.refused (eqb b 1) t w)
primary_fits g Closing t p (parts Rnr ns nr b z) one h w = (h, w)
primary_fits g m t p (parts Sarm ns nr b z) one h w = (h, w)
primary_fits g m t p (parts Disc ns nr b z) one h w = (h, w)

secondary_fits : (k : ℕ) (u : Bool) (s : Station) (f : Parts) (two : List Entry) →
    length two ≤ k → length (secondary_hears k u s f two).out ≤ k
secondary_fits k u s (parts Sarm ns nr b z) two h = put_fits k two (plain Ua) h
secondary_fits k true s (parts Disc ns nr b z) two h = put_fits k two (plain Ua) h
secondary_fits k false s (parts Disc ns nr b z) two h = put_fits k two (plain Dm) h
secondary_fits k true s (parts I ns nr b z) two h = h
secondary_fits k false s (parts I ns nr b z) two h = h
secondary_fits k true s (parts Rr ns nr b z) two h =
    let r = hear_s s false nr in final_fits k r.refused (eqb b 1) r.station two h
secondary_fits k false s (parts Rr ns nr b z) two h = h
secondary_fits k true s (parts Rnr ns nr b z) two h =
    let r = hear_s s true nr in final_fits k r.refused (eqb b 1) r.station two h
secondary_fits k false s (parts Rnr ns nr b z) two h = h
secondary_fits k u s (parts Ua ns nr b z) two h = h
secondary_fits k u s (parts Dm ns nr b z) two h = h

-- ---- ticks and strikes

older_length : (d : ℕ) (es : List Entry) → length (older d es) ≤ length es
older_length d es = thin_length (thin_older d es)

strike_length : (place start mask : ℕ) (es : List Entry) → length (struck_way place start mask es) ≤ length es
strike_length place start mask es = thin_length (thin_strike place start mask es)

tick_fits : (g : Measures) (out : Bool) (m : Mode) (n : ℕ) (p : Station) (one : List Entry) →
    0 < g.t → leb g.t (n + 1) ≡ out → length one ≤ g.k →
    (length (tick_by out g.k m n p one).out ≤ g.k) × Timely g.t (tick_by out g.k m n p one).timer
tick_fits g true m n p one some e h = (put_fits g.k one (due m p) h, some)
tick_fits g false m n p one some e h = (h, leb-false g.t (n + 1) e)

-- ---- every call

primary_send_fits : (g : Measures) (r : Option StationRefusal) (m : Mode) (t : Timer) (u : Bool) (p s : Station) (z : Block)
    (one two : List Entry) → Fits g (state one two m t u p s) →
    Fits g (by_primary (primary.send_by r g.k m t p z one) (state one two m t u p s))
primary_send_fits g (Some e) m t u p s z one two h = h
primary_send_fits g None m t u p s z one two (fits a b c) = fits (put_fits g.k one (inform p p.vs z) a) b c

secondary_send_fits : (g : Measures) (r : Option StationRefusal) (m : Mode) (t : Timer) (u : Bool) (p s : Station) (z : Block)
    (one two : List Entry) → Fits g (state one two m t u p s) →
    Fits g (by_secondary (secondary.send_by r g.k u s z two) (state one two m t u p s))
secondary_send_fits g (Some e) m t u p s z one two h = h
secondary_send_fits g None m t u p s z one two (fits a b c) = fits a (put_fits g.k two (inform s s.vs z) b) c

module _ (g : Measures) (some : 0 < g.t) where
  pub fits_call : (x : State) (c : Call) → Fits g x → Fits g (leaves c g x)
  fits_call (state one two Closed t u p s) opens (fits a b c) = fits (put_fits g.k one (plain Sarm) a) b some
  fits_call (state one two Opening t u p s) opens h = h
  fits_call (state one two Open t u p s) opens h = h
  fits_call (state one two Closing t u p s) opens h = h
  fits_call (state one two Closed t u p s) closes h = h
  fits_call (state one two Opening t u p s) closes h = h
  fits_call (state one two Open None u p s) closes (fits a b c) = fits (put_fits g.k one (plain Disc) a) b some
  fits_call (state one two Open (Some n) u p s) closes h = h
  fits_call (state one two Closing t u p s) closes h = h
  fits_call (state one two Closed t u p s) polls h = h
  fits_call (state one two Opening t u p s) polls h = h
  fits_call (state one two Open None u p s) polls (fits a b c) = fits (put_fits g.k one (status p) a) b some
  fits_call (state one two Open (Some n) u p s) polls h = h
  fits_call (state one two Closing t u p s) polls h = h
  fits_call (state one two m None u p s) ticks (fits a b c) =
      fits (omega (arith, older_length g.d one)) (omega (arith, older_length g.d two)) tt
  fits_call (state one two m (Some n) u p s) ticks (fits a b c) =
      let r = tick_fits g (leb g.t (n + 1)) m n p (older g.d one) some refl (omega (arith, older_length g.d one)) in
      fits r.0 (omega (arith, older_length g.d two)) r.1
  fits_call (state one two m t u p s) (sends Primary z) h = primary_send_fits g (send_check (is_open m) p z) m t u p s z one two h
  fits_call (state one two m t u p s) (sends Secondary z) h = secondary_send_fits g (send_check u s z) m t u p s z one two h
  fits_call (state one [] m t u p s) (takes Primary) h = h
  fits_call (state one (struck a ∷ es) m t u p s) (takes Primary) (fits b c d) = fits b (omega arith) d
  fits_call (state one (frame a f ∷ es) m t u p s) (takes Primary) (fits b c d) =
      let r = primary_fits g m t p f one b d in fits r.0 (omega arith) r.1
  fits_call (state [] two m t u p s) (takes Secondary) h = h
  fits_call (state (struck a ∷ es) two m t u p s) (takes Secondary) (fits b c d) = fits (omega arith) c d
  fits_call (state (frame a f ∷ es) two m t u p s) (takes Secondary) (fits b c d) =
      fits (omega arith) (secondary_fits g.k u s f two c) d
  fits_call (state one two m t u p s) (fetches Primary) (fits a b c) = fits a b c
  fits_call (state one two m t u p s) (fetches Secondary) (fits a b c) = fits a b c
  fits_call (state one two m t u p s) (strikes One place start mask) (fits a b c) =
      fits (omega (arith, strike_length place start mask one)) b c
  fits_call (state one two m t u p s) (strikes Two place start mask) (fits a b c) =
      fits a (omega (arith, strike_length place start mask two)) c

-- and so every list of calls on a link without a fault
pub fits_run : (l : Model) → 0 < l.measures.t → l.fault ≡ None → Fits l.measures l.now → (calls : List Call) →
    Fits l.measures (run l calls).now
fits_run l some sound h [] = h
fits_run l some sound h (c ∷ cs) =
    let g : Measures = l.measures in
    fits_run (step l c) some sound
    (subst (λ o. Fits g (held_by o l.now (leaves c g l.now))) (sym sound) (fits_call g some l.now c h)) cs
