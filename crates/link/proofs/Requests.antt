-- Open, close and poll keep the invariant.
use Rattle.std.proofs.Common.{eqb, ltb, [], length, Some, None, refl}
use Rattle.frames.specs.declared.kind.Kind.TheVariants.{Sarm, Disc}
use Rattle.stations.specs.Puts.{plain, status}
use Rattle.link.specs.State.{Measures, State}
use Rattle.link.specs.History.{Account, opens, closes, polls}
use Rattle.link.proofs.Marks.{marked_status, empty}
use Rattle.link.proofs.Exchange.{quiet, exchange_ask}
use Rattle.link.proofs.Ends.{flip, status_duplex, disc_duplex}
use Rattle.link.proofs.Openings.{sarm_none, sarms_put, still_closed}
use Rattle.link.proofs.Phases.{Phase, both_closed, opening, both_open, closing, half_closed, Wholes, Then}

module _ {g : Measures} where
  pub keep_opens : {x : State} {y : Account} → Phase g x y → Wholes x y → Then opens g x y
  keep_opens both_closed q =
      let room = ltb 0 g.k in
      (opening (exchange_ask room (plain Sarm) refl (empty, empty)) (sarms_put room sarm_none) still_closed, q)
  keep_opens (opening i s f) q = (opening i s f, q)
  keep_opens (both_open i d) q = (both_open i d, q)
  keep_opens (closing i d) q = (closing i d, q)
  keep_opens (half_closed i e l) q = (half_closed i e l, q)

  pub keep_closes : {x : State} {y : Account} → Phase g x y → Wholes x y → Then closes g x y
  keep_closes both_closed q = (both_closed, q)
  keep_closes (opening i s f) q = (opening i s f, q)
  keep_closes (both_open {t = None} {one = one} i d) q =
      let w = quiet i in
      let room = ltb (length one) g.k in
      (closing (exchange_ask room (plain Disc) refl w) (disc_duplex room (flip d) w.0), q)
  keep_closes (both_open {t = Some n} i d) q = (both_open i d, q)
  keep_closes (closing i d) q = (closing i d, q)
  keep_closes (half_closed i e l) q = (half_closed i e l, q)

  pub keep_polls : {x : State} {y : Account} → Phase g x y → Wholes x y → Then polls g x y
  keep_polls both_closed q = (both_closed, q)
  keep_polls (opening i s f) q = (opening i s f, q)
  keep_polls (both_open {t = None} {one = one} {p = p} i d) q =
      let m = marked_status (eqb (length p.waiting) 7) 0 p.vr 1 [] in
      (both_open (exchange_ask (ltb (length one) g.k) (status p) m (quiet i)) (status_duplex g.k d), q)
  keep_polls (both_open {t = Some n} i d) q = (both_open i d, q)
  keep_polls (closing i d) q = (closing i d, q)
  keep_polls (half_closed i e l) q = (half_closed i e l, q)
