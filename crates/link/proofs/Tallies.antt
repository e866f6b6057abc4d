-- A station's numbers and window are what its tally since opening says, and each of its steps keeps that.
use Rattle.std.proofs.Common.{◌≡◌, ℕ, ◌+◌, ◌-◌, ◌%◌, ◌<◌, ◌≤◌, Bool, true, List, [], ◌∷◌, ◌++◌, length, drop, sym, refl, ap, ◌∙◌, arith}
use Rattle.std.proofs.lemmas.List.{length_push, drop-append-le, drop-drop, get_or_push}
use Rattle.std.proofs.lemmas.Bool.{le-leb}
use Rattle.stations.specs.Station as end
use Rattle.stations.specs.Station.{Block, Station, reset, outstanding, passed, allowed, sent, far_is, with_waiting}
use Rattle.link.specs.History.{Tally, accept, acknowledge, take_in, fetch, restart}
use Rattle.link.specs.Promise.{Outstanding}
use Rattle.link.proofs.Modulo.{apart, next}
use Rattle.link.proofs.Flows.{Tells, Carries}

pub record Sound (x : Station) (y : Tally) : Type 0 where
  pub vs_is : x.vs ≡ length y.accepted % 8
  pub va_is : x.va ≡ y.acknowledged % 8
  pub vr_is : x.vr ≡ length y.taken % 8
  pub window_is : x.window ≡ drop y.acknowledged y.accepted
  pub room : length y.accepted ≤ y.acknowledged + 7
  pub most : y.acknowledged ≤ length y.accepted

-- a station that opens
pub sound_reset : (x : Station) (y : Tally) → Sound (reset x) (restart y)
sound_reset x y =
    record { vs_is = refl; va_is = refl; vr_is = refl; window_is = refl; room = omega arith; most = omega arith }

-- a station from which a block is fetched
pub sound_fetched : {x : Station} {y : Tally} (z : Block) (zs : List Block) →
    Sound x y → Sound (with_waiting x zs) (fetch z y)
sound_fetched z zs h =
    record {
      vs_is = h.vs_is;
      va_is = h.va_is;
      vr_is = h.vr_is;
      window_is = h.window_is;
      room = h.room;
      most = h.most;
    }

-- what is outstanding
outstanding_is : {x : Station} {y : Tally} → Sound x y → outstanding x ≡ length y.accepted - y.acknowledged
outstanding_is {x} {y} h = rw (h.vs_is, h.va_is) (apart y.acknowledged (length y.accepted) h.most h.room)

pub unacknowledged : {x : Station} {y : Tally} → Sound x y → Outstanding x y
unacknowledged h = record { unacknowledged = omega (arith, outstanding_is h, h.most) }

-- a send
module _ {x : Station} {y : Tally} (z : Block) (h : Sound x y) (free : outstanding x < 7) where
  pub sound_sent : Sound (sent x z) (accept z y)
  sound_sent =
      record {
        vs_is = next (length y.accepted) x.vs h.vs_is ∙ ap (λ n. n % 8) (sym (length_push y.accepted z));
        va_is = h.va_is;
        vr_is = h.vr_is;
        window_is =
            ap (λ w. w ++ (z ∷ [])) h.window_is
            ∙ sym (drop-append-le y.acknowledged y.accepted (z ∷ []) h.most);
        room = omega (arith, length_push y.accepted z, outstanding_is h);
        most = omega (arith, length_push y.accepted z, h.most);
      }

  -- the block sent is the last one accepted
  pub carries_sent :
      Carries (y.accepted ++ (z ∷ [])) x.vs (length (y.accepted ++ (z ∷ []))) (length y.accepted) z
  carries_sent =
      record {
        number = sym h.vs_is;
        accepted = omega (arith, length_push y.accepted z);
        block = sym (get_or_push y.accepted z [] (length y.accepted) refl);
        near = omega (arith, length_push y.accepted z);
      }

-- the number rule at an N(R) that stands for the count v, of blocks accepted
module _ {x : Station} {y : Tally} {nr v : ℕ} (h : Sound x y) (t : Tells nr y.acknowledged v)
    (top : v ≤ length y.accepted) where
  passed_is : passed x nr ≡ v - y.acknowledged
  passed_is = rw (← t.number, h.va_is) (apart y.acknowledged v t.low (omega (arith, h.room)))

  pub is_allowed : allowed x nr ≡ true
  is_allowed = le-leb (passed x nr) (outstanding x) (omega (arith, passed_is, outstanding_is h))

  pub reaches : y.acknowledged + passed x nr ≡ v
  reaches = omega (arith, passed_is)

  pub sound_acknowledge : Sound (end.acknowledge x nr) (acknowledge (passed x nr) y)
  sound_acknowledge =
      record {
        vs_is = h.vs_is;
        va_is = omega (arith, t.number, reaches);
        vr_is = h.vr_is;
        window_is = ap (drop (passed x nr)) h.window_is ∙ drop-drop (passed x nr) y.acknowledged y.accepted;
        room = omega (arith, h.room, reaches);
        most = omega (arith, reaches);
      }

  pub sound_far : (busy : Bool) → Sound (far_is (end.acknowledge x nr) busy) (acknowledge (passed x nr) y)
  sound_far busy =
      let s = sound_acknowledge in
      record {
        vs_is = s.vs_is;
        va_is = s.va_is;
        vr_is = s.vr_is;
        window_is = s.window_is;
        room = s.room;
        most = s.most;
      }

  pub sound_take_in : (z : Block) →
      Sound (end.take_in (end.acknowledge x nr) z) (take_in z (acknowledge (passed x nr) y))
  sound_take_in z =
      let s = sound_acknowledge in
      record {
        vs_is = s.vs_is;
        va_is = s.va_is;
        vr_is = next (length y.taken) x.vr h.vr_is ∙ ap (λ n. n % 8) (sym (length_push y.taken z));
        window_is = s.window_is;
        room = s.room;
        most = s.most;
      }
