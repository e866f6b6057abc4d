-- A strike on either way keeps the invariant, granted or not.
use Rattle.std.proofs.Common.{ℕ, List}
use Rattle.frames.specs.declared.way.Way.{Way}
use Rattle.frames.specs.declared.way.Way.TheVariants.{One, Two}
use Rattle.lines.specs.Entries.{Entry}
use Rattle.link.specs.State.{Measures, State}
use Rattle.link.specs.Calls.{struck_way}
use Rattle.link.specs.History.{Account, strikes}
use Rattle.link.proofs.Thinning.{Thin, thin_strike}
use Rattle.link.proofs.Marks.{Unmarking, marks_strike}
use Rattle.link.proofs.Exchange.{exchange_one, exchange_two}
use Rattle.link.proofs.Ends.{thin_there, thin_back}
use Rattle.link.proofs.Openings.{sarms_thin, newly_thin}
use Rattle.link.proofs.Closings.{ending_thin, last_thin, last_thin_one}
use Rattle.link.proofs.Phases.{Phase, both_closed, opening, both_open, closing, half_closed, Wholes, Then}

module _ (g : Measures) (place start mask : ℕ) where
  unmarking : (es : List Entry) → Unmarking g.d es (struck_way place start mask es)
  unmarking es = marks_strike place start mask es

  thinning : (es : List Entry) → Thin es (struck_way place start mask es)
  thinning es = thin_strike place start mask es

  pub keep_strikes : (w : Way) {x : State} {y : Account} →
      Phase g x y → Wholes x y → Then (strikes w place start mask) g x y
  keep_strikes One both_closed q = (both_closed, q)
  keep_strikes One (opening {one = one} i s f) q =
      (opening (exchange_one (unmarking one) i) (sarms_thin (thinning one) s) f, q)
  keep_strikes One (both_open {one = one} i d) q =
      (both_open (exchange_one (unmarking one) i) (thin_there (thinning one) d), q)
  keep_strikes One (closing {one = one} i d) q =
      (closing (exchange_one (unmarking one) i) (thin_back (thinning one) d), q)
  keep_strikes One (half_closed {one = one} i e l) q =
      (half_closed (exchange_one (unmarking one) i) (ending_thin e (thinning one)) (last_thin_one (thinning one) l), q)
  keep_strikes Two both_closed q = (both_closed, q)
  keep_strikes Two (opening {two = two} i s f) q =
      (opening (exchange_two (unmarking two) i) s (newly_thin (thinning two) f), q)
  keep_strikes Two (both_open {two = two} i d) q =
      (both_open (exchange_two (unmarking two) i) (thin_back (thinning two) d), q)
  keep_strikes Two (closing {two = two} i d) q =
      (closing (exchange_two (unmarking two) i) (thin_there (thinning two) d), q)
  keep_strikes Two (half_closed {two = two} i e l) q =
      (half_closed (exchange_two (unmarking two) i) e (last_thin (thinning two) l), q)
