-- How reading goes on once its tests are passed, and what it found on its way to a frame.
use Rattle.std.proofs.Common.{◌≡◌, ℕ, ◌-◌, ◌≤◌, Bool, true, false, not, eqb, ltb, List, length, take, drop, Ok, Result, refl, ap, ◌∙◌, arith, length-drop, length-take}
use Rattle.std.proofs.lemmas.List.{take-take}
use Rattle.std.proofs.lemmas.Bool.{le-ltb, eq-eqb, eqb-true, ltb-false, not-false}
use Rattle.frames.specs.declared.way.Way.{Way}
use Rattle.frames.specs.declared.refusal.FrameRefusal.{FrameRefusal}
use Rattle.frames.specs.declared.refusal.FrameRefusal.TheVariants.{Short, Long, Check, Address}
use Rattle.frames.specs.Refusals.{refuse}
use Rattle.frames.specs.Parts.{Parts}
use Rattle.frames.specs.Fcs.{checks}
use Rattle.frames.specs.Reader.{address, control_octet, information, said_answer, read_answer}

-- a refusal that was not given had a test that failed
pub past : {A : Type 0} (b : Bool) (e : FrameRefusal) (x : Result A FrameRefusal) (a : A) → refuse b e x ≡ Ok a
    → (b ≡ false) × (x ≡ Ok a)
past true e x a h = absurd (let z : ◌≡◌ {A = ℕ} 0 1 = cc in omega arith)
past false e x a h = (refl, h)

module _ (w : Way) (os : List ℕ) where
  pub passes : 4 ≤ length os → length os ≤ 68 → checks os ≡ true → address os ≡ 0x01
      → read_answer w os ≡ said_answer w (control_octet os) (information os)
  passes low high good here =
      simp (le-ltb (length os) 4 low, le-ltb 68 (length os) high, good, eq-eqb (address os) 0x01 here)

  -- what octets that are read are found to be
  pub record Found (p : Parts) : Type 0 where
    pub low : 4 ≤ length os
    pub high : length os ≤ 68
    pub good : checks os ≡ true
    pub here : address os ≡ 0x01
    pub said : said_answer w (control_octet os) (information os) ≡ Ok p

  pub found : (p : Parts) → read_answer w os ≡ Ok p → Found p
  found p h =
      let a = past (ltb (length os) 4) Short _ p h in
      let b = past (ltb 68 (length os)) Long _ p a.1 in
      let c = past (not (checks os)) Check _ p b.1 in
      let d = past (not (eqb (address os) 0x01)) Address _ p c.1 in
      record {
        low = ltb-false (length os) 4 a.0;
        high = ltb-false 68 (length os) b.0;
        good = not-false (checks os) c.0;
        here = eqb-true (address os) 0x01 (not-false (eqb (address os) 0x01) d.0);
        said = d.1;
      }

-- the information, as the two slice patterns of the reader cut it out
pub cut_out : (os : List ℕ) → 4 ≤ length os
    → take (length (take (length os - 2) (drop 2 os)) - 2) (take (length os - 2) (drop 2 os)) ≡ information os
cut_out os h =
    let n : length (take (length os - 2) (drop 2 os)) - 2 ≡ length os - 4 = simp (length-take, length-drop) (omega arith) in
    ap (λ k. take k (take (length os - 2) (drop 2 os))) n ∙ take-take (length os - 4) (length os - 2) (drop 2 os) (omega arith)
