-- Reading and writing match both ways.
use Rattle.std.proofs.Common.{◌≡◌, ℕ, suc, ◌+◌, ◌-◌, ◌<◌, ◌≤◌, Bool, true, false, cond, not, ◌&&◌, eqb, ltb, List, [], ◌∷◌, ◌++◌, length, get_or, take, drop, Some, None, Ok, Err, Option, Result, sym, refl, ap, ◌∙◌, ap₂, arith, length-drop, take-append-drop, length-take}
use Rattle.std.proofs.lemmas.Bool.{le-ltb, eqb-true, ltb-false, not-false}
use Rattle.std.proofs.lemmas.List.{take_at, drop_at, nil_from_length}
use Rattle.frames.specs.declared.way.Way.{Way}
use Rattle.frames.specs.declared.kind.Kind.{Kind}
use Rattle.frames.specs.declared.refusal.FrameRefusal.{FrameRefusal}
use Rattle.frames.specs.declared.refusal.FrameRefusal.TheVariants.{Long, Stray}
use Rattle.frames.specs.Refusals.{refuse}
use Rattle.frames.specs.Parts.{Head, head, Parts, parts, head_of, info_of, informs}
use Rattle.frames.specs.Fcs.{check_octets, before, Checked}
use Rattle.frames.specs.Control.{carries, numbered, control, control_answer, decode}
use Rattle.frames.specs.Reader.{address, control_octet, information, stray, said, read_answer}
use Rattle.frames.specs.Writer.{octets_of, admit_by, admit_answer, octets_by, frame_octets}
use Rattle.frames.proofs.Checks.{checked_of, checks_of}
use Rattle.frames.proofs.ControlOctets.{says, written_from}
use Rattle.frames.proofs.Reading.{past, passes, found}
use Rattle.frames.proofs.Writing.{octets_length}

-- ---- what was written is read
coded : (a : Result ℕ FrameRefusal) (i os : List ℕ) → octets_by a i ≡ Ok os → (c : ℕ) × (a ≡ Ok c) × (octets_of c i ≡ os)
coded (Err e) i os h = absurd (let z : ◌≡◌ {A = ℕ} 0 1 = cc in omega arith)
coded (Ok c) i os h = (c, refl, cc)

admitted : (o : Option ℕ) (astray : Bool) (c : ℕ) → admit_by o astray ≡ Ok c → (o ≡ Some c) × (astray ≡ false)
admitted None astray c h = absurd (let z : ◌≡◌ {A = ℕ} 0 1 = cc in omega arith)
admitted (Some d) astray c h = let p = past astray Stray (Ok d) c h in let e = p.1 in (cc, p.0)

controlled : (g : Bool) (d c : ℕ) → cond {A = Option ℕ} g (Some d) None ≡ Some c → (g ≡ true) × (d ≡ c)
controlled true d c h = (refl, cc)
controlled false d c h = absurd (let z : ◌≡◌ {A = ℕ} 0 1 = cc in omega arith)

-- a frame's own octets pass the check
octets_checked : (c : ℕ) (i : List ℕ) → Checked (octets_of c i)
octets_checked c i =
    let l : length (octets_of c i) - 2 ≡ length (0x01 ∷ c ∷ i) = omega (arith, octets_length c i) in
    ap (λ k. drop k (octets_of c i)) l ∙ drop_at (0x01 ∷ c ∷ i) (check_octets (0x01 ∷ c ∷ i)) (length (0x01 ∷ c ∷ i)) refl
    ∙ sym (ap check_octets (ap (λ k. take k (octets_of c i)) l ∙ take_at (0x01 ∷ c ∷ i) (check_octets (0x01 ∷ c ∷ i)) (length (0x01 ∷ c ∷ i)) refl))

-- information that is not stray is the frame's own
own : (k : Kind) (i : List ℕ) → stray k i ≡ false → cond (informs k) i [] ≡ i
own k i h = go (informs k) h
  where
    go : (b : Bool) → (not b && not (eqb (length i) 0)) ≡ false → cond b i [] ≡ i
    go true g = refl
    go false g = sym (nil_from_length i (eqb-true (length i) 0 (not-false (eqb (length i) 0) g)))

granted : (k : Kind) (s r b : ℕ) (i : List ℕ) → stray k i ≡ false → said (Some (head k s r b)) i ≡ Ok (parts k s r b i)
granted k s r b i h =
    ap (λ (t : Bool). refuse t Stray (Ok (parts k s r b (cond (informs k) i [])))) h ∙ ap (λ l. Ok (parts k s r b l)) (own k i h)

pub written_read : (w : Way) (p : Parts) (os : List ℕ) → frame_octets w p ≡ Ok os → read_answer w os ≡ Ok p
written_read w (parts k s r b i) os e =
    let x = coded (admit_answer w (parts k s r b i)) i os e in
    let c : ℕ = x.0 in
    let a = past (ltb 64 (length i)) Long (admit_by (control_answer w (head k s r b)) (stray k i)) c x.1 in
    let d = admitted (control_answer w (head k s r b)) (stray k i) c a.1 in
    let g = controlled (carries w k && numbered k s r b) (control k s r b) c d.0 in
    let short : length i ≤ 64 = ltb-false 64 (length i) a.0 in
    let n : length (octets_of c i) ≡ length i + 4 = octets_length c i in
    let m : length (octets_of c i) - 4 ≡ length i = omega arith in
    let h : decode w c ≡ Some (head k s r b) = ap (decode w) (sym g.1) ∙ says w k s r b g.0 in
    ap (read_answer w) (sym x.2)
    ∙ passes w (octets_of c i) (omega arith) (omega arith) (checks_of (octets_of c i) (omega arith) (octets_checked c i)) refl
    ∙ ap₂ said h (ap (λ l. take l (i ++ check_octets (0x01 ∷ c ∷ i))) m ∙ take_at i (check_octets (0x01 ∷ c ∷ i)) (length i) refl)
    ∙ granted k s r b i d.1

-- ---- what was read is written
pub record Told (o : Option Head) (i : List ℕ) (p : Parts) : Type 0 where
  pub head : o ≡ Some (head_of p)
  pub info : i ≡ info_of p
  pub admits : (w : Way) (c : ℕ) → length i ≤ 64 → control_answer w (head_of p) ≡ Some c → admit_answer w p ≡ Ok c

told : (o : Option Head) (i : List ℕ) (p : Parts) → said o i ≡ Ok p → Told o i p
told None i p h = absurd (let z : ◌≡◌ {A = ℕ} 0 1 = cc in omega arith)
told (Some (head k s r b)) i (parts l t u v j) h =
    let q = past (stray k i) Stray (Ok (parts k s r b (cond (informs k) i []))) (parts l t u v j) h in
    let e = q.1 in
    let o = own k i q.0 in
    let f : parts k s r b i ≡ parts l t u v j = ap (parts k s r b) (sym o) ∙ (cc) in
    record {
      head = ap (λ x. Some (head_of x)) f;
      info = ap info_of f;
      admits = λ w c short g.
          ap (admit_answer w) (sym f)
          ∙ ap (λ (t : Bool). refuse t Long (admit_by (control_answer w (head k s r b)) (stray k i))) (le-ltb 64 (length i) short)
          ∙ ap₂ admit_by (ap (λ x. control_answer w (head_of x)) f ∙ g) q.0;
    }

front : (os : List ℕ) → 4 ≤ length os → address os ≡ 0x01 → before os ≡ 0x01 ∷ control_octet os ∷ information os
front [] h e = absurd (omega arith)
front (a ∷ []) h e = absurd (omega arith)
front (a ∷ b ∷ t) h e =
    let n : suc (suc (length t)) - 2 ≡ suc (suc (suc (suc (length t)) - 4)) = omega arith in
    ap (λ k. take k (a ∷ b ∷ t)) n ∙ ap (λ x. x ∷ b ∷ take (suc (suc (length t)) - 4) t) e

whole : (os : List ℕ) → 4 ≤ length os → address os ≡ 0x01 → Checked os → octets_of (control_octet os) (information os) ≡ os
whole os h e k =
    let f = front os h e in
    ap (λ b. b ++ check_octets b) (sym f) ∙ ap (λ b. before os ++ b) (sym k) ∙ take-append-drop (length os - 2) os

pub read_written : (w : Way) (os : List ℕ) (p : Parts) → ((k : ℕ) → get_or os k 0 < 256) → read_answer w os ≡ Ok p
    → frame_octets w p ≡ Ok os
read_written w os p octets h =
    let f = found w os p h in
    let c : ℕ = control_octet os in
    let s = told (decode w c) (information os) p f.said in
    let short : length (information os) ≤ 64 =
    simp (length-take, length-drop) (let lo = f.low in let hi = f.high in omega arith) in
    let a : admit_answer w p ≡ Ok c = s.admits w c short (written_from w c (head_of p) (octets 1) s.head) in
    ap₂ octets_by a (sym s.info) ∙ ap Ok (whole os f.low f.here (checked_of os f.good).1)
