-- What time and strikes do to a way: ages change, frames become struck, entries leave, and nothing else.
use Rattle.std.proofs.Common.{ℕ, zero, suc, ◌+◌, ◌≤◌, Bool, true, false, cond, leb, List, [], ◌∷◌, length, is_ok, arith}
use Rattle.frames.specs.Parts.{Parts}
use Rattle.lines.specs.Entries.{Entry, struck, frame, at}
use Rattle.lines.specs.Line.{older, keep_by, hit_at, strike_by}
use Rattle.link.specs.Calls.{struck_way}

-- the second list is the first with other ages, some frames struck and some entries gone
pub data Thin : List Entry → List Entry → Type 0 where
  none : Thin [] []
  mute : {a b : ℕ} {es fs : List Entry} → Thin es fs → Thin (struck a ∷ es) (struck b ∷ fs)
  same : {a b : ℕ} {f : Parts} {es fs : List Entry} → Thin es fs → Thin (frame a f ∷ es) (frame b f ∷ fs)
  hit : {a b : ℕ} {f : Parts} {es fs : List Entry} → Thin es fs → Thin (frame a f ∷ es) (struck b ∷ fs)
  gone : {e : Entry} {es fs : List Entry} → Thin es fs → Thin (e ∷ es) fs

thin_same : (es : List Entry) → Thin es es
thin_same [] = none
thin_same (struck a ∷ es) = mute (thin_same es)
thin_same (frame a f ∷ es) = same (thin_same es)

-- the front leaves
pub thin_tail : {e : Entry} (es : List Entry) → Thin (e ∷ es) es
thin_tail es = gone (thin_same es)

-- a tick
pub thin_older : (d : ℕ) (es : List Entry) → Thin es (older d es)
thin_older d [] = none
thin_older d (struck a ∷ es) = go (leb (a + 1) d) (thin_older d es)
  where
    go : (w : Bool) → Thin es (older d es) → Thin (struck a ∷ es) (keep_by w (struck (a + 1)) (older d es))
    go true h = mute h
    go false h = gone h
thin_older d (frame a f ∷ es) = go (leb (a + 1) d) (thin_older d es)
  where
    go : (w : Bool) → Thin es (older d es) → Thin (frame a f ∷ es) (keep_by w (frame (a + 1) f) (older d es))
    go true h = same h
    go false h = gone h

-- a strike
thin_hit : (place : ℕ) (es : List Entry) → Thin es (hit_at place es)
thin_hit place [] = none
thin_hit zero (struck a ∷ es) = mute (thin_same es)
thin_hit zero (frame a f ∷ es) = hit (thin_same es)
thin_hit (suc place) (struck a ∷ es) = mute (thin_hit place es)
thin_hit (suc place) (frame a f ∷ es) = same (thin_hit place es)

pub thin_strike : (place start mask : ℕ) (es : List Entry) → Thin es (struck_way place start mask es)
thin_strike place start mask es = go (is_ok (strike_by (at es place) start mask))
  where
    go : (w : Bool) → Thin es (cond w (hit_at place es) es)
    go true = thin_hit place es
    go false = thin_same es

-- no entry comes
pub thin_length : {es fs : List Entry} → Thin es fs → length fs ≤ length es
thin_length none = omega arith
thin_length (mute t) = let l = thin_length t in omega arith
thin_length (same t) = let l = thin_length t in omega arith
thin_length (hit t) = let l = thin_length t in omega arith
thin_length (gone t) = let l = thin_length t in omega arith
