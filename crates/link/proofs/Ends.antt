-- Two ends with one connection between them: what each has done, and what is on its way either way.
use Rattle.std.proofs.Common.{◌≡◌, ℕ, ◌+◌, ◌<◌, ◌≤◌, max, Bool, true, false, eqb, ltb, List, [], ◌∷◌, ◌++◌, length, get_or, take, Some, None, sym, refl, ap, ◌∙◌, subst, arith}
use Rattle.std.proofs.lemmas.List.{length_push, take_more, take-append-le, take-take}
use Rattle.std.proofs.lemmas.Bool.{eqb-true, and_parts}
use Rattle.frames.specs.declared.kind.Kind.TheVariants.{Disc}
use Rattle.lines.specs.Entries.{Entry}
use Rattle.stations.specs.Station.{Block, Station, outstanding, passed, allowed, wanted, sent, with_waiting}
use Rattle.stations.specs.Puts.{put, put_by, plain, inform, status, again, again_by}
use Rattle.stations.specs.Answers.{some}
use Rattle.stations.specs.Rule.{Heard, heard_i, hear_i, heard_s, hear_s}
use Rattle.stations.specs.Primary.{Timer, resend_by}
use Rattle.stations.specs.Secondary.{final_by}
use Rattle.link.specs.History.{Tally, accept, acknowledge, fetch, take_in_by}
use Rattle.link.specs.Promise.{Direction}
use Rattle.link.proofs.Modulo.{same_count}
use Rattle.link.proofs.Thinning.{Thin, thin_tail}
use Rattle.link.proofs.Marks.{Marks}
use Rattle.link.proofs.Flows.{Tells, Carries, Stream, flow_low, flow_most, flow_less, flow_more, flow_accept, flow_put_info, flow_put_status, flow_again, flow_thin, flow_put_disc}
use Rattle.link.proofs.Tallies.{Sound, sound_fetched, sound_sent, carries_sent, is_allowed, reaches, sound_acknowledge, sound_far, sound_take_in}

-- a way on which the end with the first tally puts, and the end with the second takes; where c is true, a DISC may
-- stand last
abbrev pub Between : Bool → Tally → Tally → List Entry → Type 0
Between c xt yt es = Stream xt.accepted (length xt.taken) c (length yt.taken) yt.acknowledged es

-- x puts on xy, and y on yx, which may end in a DISC where c is true
pub record Duplex (c : Bool) (x : Station) (xt : Tally) (y : Station) (yt : Tally) (xy yx : List Entry) : Type 0 where
  pub left : Sound x xt
  pub right : Sound y yt
  pub there : Between false xt yt xy
  pub back : Between c yt xt yx
  pub got_there : yt.taken ≡ take (length yt.taken) xt.accepted
  pub got_back : xt.taken ≡ take (length xt.taken) yt.accepted

pub flip : {x : Station} {xt : Tally} {y : Station} {yt : Tally} {xy yx : List Entry} →
    Duplex false x xt y yt xy yx → Duplex false y yt x xt yx xy
flip h =
    record {
      left = h.right;
      right = h.left;
      there = h.back;
      back = h.there;
      got_there = h.got_back;
      got_back = h.got_there;
    }

-- what a direction promises
pub direction : {x : Station} {xt : Tally} {y : Station} {yt : Tally} {xy yx : List Entry} →
    Duplex false x xt y yt xy yx → Direction xt yt
direction {xt = xt} {yt = yt} d =
    record {
      prefix = d.got_there;
      arrived =
          ap (take xt.acknowledged) d.got_there
          ∙ take-take xt.acknowledged (length yt.taken) xt.accepted (flow_low d.back);
      reached = flow_low d.back;
      within_accepted = flow_most d.there;
      window = d.left.room;
    }

-- ---- changes at x, of the ways, and what x puts

module _ {c : Bool} {x : Station} {xt : Tally} {y : Station} {yt : Tally} {xy yx : List Entry} where
  pub send_duplex : (k : ℕ) (z : Block) → outstanding x < 7 → Duplex c x xt y yt xy yx →
      Duplex c (sent x z) (accept z xt) y yt (put k xy (inform x x.vs z)) yx
  send_duplex k z free h =
      record {
        left = sound_sent z h.left free;
        right = h.right;
        there =
            flow_put_info (ltb (length xy) k) x.vs x.vr 0 (length xt.accepted) z (sym h.left.vr_is)
            (carries_sent z h.left free) (flow_accept z h.there);
        back = h.back;
        got_there =
            h.got_there
            ∙ sym (take-append-le (length yt.taken) xt.accepted (z ∷ []) (flow_most h.there));
        got_back = h.got_back;
      }

  -- a block is fetched at x, or at y
  pub fetch_duplex : (z : Block) (zs : List Block) →
      Duplex c x xt y yt xy yx → Duplex c (with_waiting x zs) (fetch z xt) y yt xy yx
  fetch_duplex z zs h =
      record {
        left = sound_fetched z zs h.left;
        right = h.right;
        there = h.there;
        back = h.back;
        got_there = h.got_there;
        got_back = h.got_back;
      }

  pub far_fetch_duplex : (z : Block) (zs : List Block) →
      Duplex c x xt y yt xy yx → Duplex c x xt (with_waiting y zs) (fetch z yt) xy yx
  far_fetch_duplex z zs h =
      record {
        left = h.left;
        right = sound_fetched z zs h.right;
        there = h.there;
        back = h.back;
        got_there = h.got_there;
        got_back = h.got_back;
      }

  -- way there, way back
  with_there : {es : List Entry} → Duplex c x xt y yt xy yx →
      Between false xt yt es → Duplex c x xt y yt es yx
  with_there h f =
      record {
        left = h.left;
        right = h.right;
        there = f;
        back = h.back;
        got_there = h.got_there;
        got_back = h.got_back;
      }

  with_back : {d : Bool} {es : List Entry} → Duplex c x xt y yt xy yx →
      Between d yt xt es → Duplex d x xt y yt xy es
  with_back h f =
      record {
        left = h.left;
        right = h.right;
        there = h.there;
        back = f;
        got_there = h.got_there;
        got_back = h.got_back;
      }

  pub thin_there : {es : List Entry} → Thin xy es → Duplex c x xt y yt xy yx → Duplex c x xt y yt es yx
  thin_there t h = with_there h (flow_thin t h.there)

  pub thin_back : {es : List Entry} → Thin yx es → Duplex c x xt y yt xy yx → Duplex c x xt y yt xy es
  thin_back t h = with_back h (flow_thin t h.back)

  pub status_duplex : (k : ℕ) → Duplex c x xt y yt xy yx → Duplex c x xt y yt (put k xy (status x)) yx
  status_duplex k h =
      with_there h
      (flow_put_status (ltb (length xy) k) (eqb (length x.waiting) 7) 0 x.vr 1 [] (sym h.left.vr_is)
      h.there)

  again_duplex : (k : ℕ) → Duplex c x xt y yt xy yx → Duplex c x xt y yt (again k x xy) yx
  again_duplex k h = with_there h (go x.busy)
    where
      go : (busy : Bool) → Between false xt yt (again_by busy k x xy)
      go true = h.there
      go false =
          flow_again k x xt.acknowledged x.va x.window (sym h.left.vr_is) (sym h.left.va_is)
          h.left.room h.left.window_is h.there

  -- a DISC goes out on the way to x
  pub disc_duplex : (room : Bool) {d : ℕ} {P : ℕ → Type 0} →
      Duplex c x xt y yt xy yx → Marks d P false yx → Duplex true x xt y yt xy (put_by room yx (plain Disc))
  disc_duplex room h w = with_back h (flow_put_disc room h.back w)

module _ {c : Bool} {x : Station} {xt : Tally} {y : Station} {yt : Tally} {xy yx : List Entry} where
  -- a poll is answered
  pub final_duplex : (refused poll : Bool) (k : ℕ) →
      Duplex c x xt y yt xy yx → Duplex c x xt y yt (final_by refused poll k x xy) yx
  final_duplex true poll k h = h
  final_duplex false false k h = h
  final_duplex false true k h = again_duplex k (status_duplex k h)

  -- a final has outstanding blocks sent again
  pub resend_duplex : (refused final : Bool) (t : Timer) (k : ℕ) →
      Duplex c x xt y yt xy yx → Duplex c x xt y yt (resend_by refused final t k x xy) yx
  resend_duplex true final t k h = h
  resend_duplex false false t k h = h
  resend_duplex false true None k h = h
  resend_duplex false true (Some n) k h = again_duplex k h

-- ---- what x hears

-- the tally of a station that heard a frame with this information
abbrev pub told : Block → Heard → Tally → Tally
told z h y = take_in_by (some h.taken) z (acknowledge h.acknowledged y)

-- no allowed number is refused
pub info_unrefused : (x : Station) (ns nr : ℕ) (z : Block) → allowed x nr ≡ true → (hear_i x ns nr z).refused ≡ false
info_unrefused x ns nr z ok = subst (λ v. (heard_i v (wanted x ns) x nr z).refused ≡ false) (sym ok) (go (wanted x ns))
  where
    go : (w : Bool) → (heard_i true w x nr z).refused ≡ false
    go true = refl
    go false = refl

pub status_unrefused : (x : Station) (busy : Bool) (nr : ℕ) → allowed x nr ≡ true → (hear_s x busy nr).refused ≡ false
status_unrefused x busy nr ok = subst (λ v. (heard_s v x busy nr).refused ≡ false) (sym ok) refl

module _ {c : Bool} {x : Station} {xt : Tally} {y : Station} {yt : Tally} {xy es : List Entry} where
  -- the numbers on the way back are allowed
  pub told_allowed : {m nr v : ℕ} → Tells nr xt.acknowledged v →
      Stream yt.accepted (length yt.taken) c m v es → Duplex c x xt y yt xy es → allowed x nr ≡ true
  told_allowed t rest h =
      is_allowed h.left t (omega (arith, flow_low rest, flow_most h.there))

  -- RR or RNR
  pub status_heard : (busy : Bool) (z : Block) {nr v : ℕ} → Tells nr xt.acknowledged v →
      Stream yt.accepted (length yt.taken) c (length xt.taken) v es → Duplex c x xt y yt xy es →
      Duplex c (hear_s x busy nr).station (told z (hear_s x busy nr) xt) y yt xy es
  status_heard busy z {nr} {v} t rest h =
      let top : v ≤ length xt.accepted = omega (arith, flow_low rest, flow_most h.there) in
      let P : Bool → Type 0 =
      λ w. Duplex c (heard_s w x busy nr).station (told z (heard_s w x busy nr) xt) y yt xy es in
      let r : P true =
      record {
        left = sound_far h.left t top busy;
        right = h.right;
        there = h.there;
        back =
            flow_less (length xt.taken) (xt.acknowledged + passed x nr) (omega arith)
            (omega (arith, reaches h.left t top)) rest;
        got_there = h.got_there;
        got_back = h.got_back;
      } in
      subst P (sym (told_allowed t rest h)) r

  -- an I frame
  pub info_heard : {ns nr n v : ℕ} {z : Block} → Carries yt.accepted ns (length xt.taken) n z →
      Tells nr xt.acknowledged v →
      Stream yt.accepted (length yt.taken) c (max (length xt.taken) (n + 1)) v es → Duplex c x xt y yt xy es →
      Duplex c (hear_i x ns nr z).station (told z (hear_i x ns nr z) xt) y yt xy es
  info_heard {ns} {nr} {n} {v} {z} k t rest h =
      let P : Bool → Type 0 =
      λ w. Duplex c (heard_i w (wanted x ns) x nr z).station (told z (heard_i w (wanted x ns) x nr z) xt) y yt xy es in
      subst P (sym (told_allowed t rest h)) (go (wanted x ns) refl)
    where
      top : v ≤ length xt.accepted
      top = omega (arith, flow_low rest, flow_most h.there)

      reached : xt.acknowledged + passed x nr ≤ v
      reached = omega (arith, reaches h.left t top)

      go : (w : Bool) → wanted x ns ≡ w →
          Duplex c (heard_i true w x nr z).station (told z (heard_i true w x nr z) xt) y yt xy es
      go false _ =
          record {
            left = sound_acknowledge h.left t top;
            right = h.right;
            there = h.there;
            back = flow_less (length xt.taken) (xt.acknowledged + passed x nr) (omega arith) reached rest;
            got_there = h.got_there;
            got_back = h.got_back;
          }
      go true w =
          let r : ℕ = length xt.taken in
          let at_front : ns ≡ x.vr = eqb-true ns x.vr (and_parts _ _ w).0 in
          let is : n ≡ r =
          same_count n r (k.number ∙ at_front ∙ h.left.vr_is) k.near
          (omega (arith, h.right.room, flow_low h.there, k.accepted)) in
          let grown = length_push xt.taken z in
          let more : take (r + 1) yt.accepted ≡ take r yt.accepted ++ (get_or yt.accepted r [] ∷ []) =
          take_more yt.accepted r [] (omega (arith, k.accepted)) in
          record {
            left = sound_take_in h.left t top z;
            right = h.right;
            there = flow_more (length (xt.taken ++ (z ∷ []))) (omega arith) h.there;
            back =
                flow_less (length (xt.taken ++ (z ∷ []))) (xt.acknowledged + passed x nr) (omega arith) reached rest;
            got_there = h.got_there;
            got_back =
                ap (λ w. w ++ (z ∷ [])) h.got_back
                ∙ ap (λ w. take r yt.accepted ++ (w ∷ [])) (k.block ∙ ap (λ w. get_or yt.accepted w []) is)
                ∙ sym more
                ∙ ap (λ w. take w yt.accepted) (sym grown);
          }

module _ {c : Bool} {x : Station} {xt : Tally} {y : Station} {yt : Tally} {xy es : List Entry} where
  -- the front of a way leaves
  pub tail_back : {e : Entry} → Duplex c x xt y yt xy (e ∷ es) → Duplex c x xt y yt xy es
  tail_back h = thin_back (thin_tail es) h

  pub tail_there : {e : Entry} → Duplex c x xt y yt (e ∷ es) xy → Duplex c x xt y yt es xy
  tail_there h = thin_there (thin_tail es) h
