-- Octets that were read are refused with check once a burst has struck them.
use Rattle.std.proofs.Common.{◌≡◌, ℕ, ◌+◌, ◌*◌, ◌^◌, ◌<◌, ◌≤◌, true, false, cond, not, eqb, leb, List, length, Ok, Err, ap, ◌∙◌, inl, inr, arith}
use Rattle.std.proofs.lemmas.Bool.{le-ltb, cases_Bool, and_parts, leb-true, eqb-false, not-true}
use Rattle.frames.specs.declared.way.Way.{Way}
use Rattle.frames.specs.declared.refusal.FrameRefusal.TheVariants.{Check}
use Rattle.frames.specs.Parts.{Parts}
use Rattle.frames.specs.Fcs.{checks}
use Rattle.frames.specs.Bits.{flips, strike_answer, strike_leaves}
use Rattle.frames.specs.Reader.{read_answer}
use Rattle.frames.specs.Laws.{Seen}
use Rattle.frames.proofs.Bursts.{burst_seen}
use Rattle.frames.proofs.Checks.{checked_of}
use Rattle.frames.proofs.Reading.{found}
use Rattle.frames.proofs.Runs.{length_flips}

refused : (w : Way) (os : List ℕ) (p : Parts) (start mask : ℕ) → read_answer w os ≡ Ok p → 0 < mask → mask < 2 ^ 16
    → start + 16 ≤ 8 * length os → read_answer w (flips 16 start mask os) ≡ Err Check
refused w os p start mask h lo hi fits =
    let f = found w os p h in
    let a : 4 ≤ length os = f.low in
    let z : length os ≤ 68 = f.high in
    let n : length (flips 16 start mask os) ≡ length os = length_flips 16 start mask os in
    let bad : checks (flips 16 start mask os) ≡ false =
    elim (cases_Bool (checks (flips 16 start mask os))) [
      | inl e ↦ absurd (burst_seen os start mask (checked_of os f.good).1 lo hi fits (checked_of (flips 16 start mask os) e).1)
      | inr e ↦ e
    ] in
    simp (le-ltb (length (flips 16 start mask os)) 4 (omega arith), le-ltb 68 (length (flips 16 start mask os)) (omega arith), bad)

-- a granted strike names a mask that is not 0, and bits within the octets
pub granted : (len start mask : ℕ) → strike_answer len start mask ≡ true → (0 < mask) × (start + 16 ≤ 8 * len)
granted len start mask g =
    let a = and_parts (not (eqb mask 0)) (leb (start + 16) (8 * len)) g in
    let n = eqb-false mask 0 (not-true (eqb mask 0) a.0) in
    (omega (arith, n), leb-true (start + 16) (8 * len) a.1)

pub seen : (os : List ℕ) (start mask : ℕ) → mask < 2 ^ 16 → Seen os (strike_answer (length os) start mask) (strike_leaves start mask os)
seen os start mask hi w p h g =
    let a = granted (length os) start mask g in
    ap (λ b. read_answer w (cond b (flips 16 start mask os) os)) g ∙ refused w os p start mask h a.0 hi a.1
