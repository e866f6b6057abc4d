-- 68 octets are room for every frame, and what writing leaves in them is the frame.
use Rattle.std.proofs.Common.{◌≡◌, ℕ, ◌≤◌, Bool, true, false, ltb, List, ◌∷◌, length, take, drop, Ok, Err, Result, sym, refl, ap, ◌∙◌, arith, length-append}
use Rattle.std.proofs.lemmas.List.{take_at}
use Rattle.std.proofs.lemmas.Bool.{le-ltb, ltb-false}
use Rattle.frames.specs.declared.way.Way.{Way}
use Rattle.frames.specs.declared.refusal.FrameRefusal.{FrameRefusal}
use Rattle.frames.specs.declared.refusal.FrameRefusal.TheVariants.{Long, NoSpace}
use Rattle.frames.specs.Refusals.{refuse}
use Rattle.frames.specs.Parts.{Parts, parts, head}
use Rattle.frames.specs.Fcs.{check_octets}
use Rattle.frames.specs.Control.{control_answer}
use Rattle.frames.specs.Reader.{stray}
use Rattle.frames.specs.Writer.{octets_of, admit_by, octets_by, frame_octets, fitted, counted, laid}

long_enough : (c : ℕ) (info : List ℕ) → length info ≤ 64 → length (octets_of c info) ≤ 68
long_enough c info h =
    let e = length-append (0x01 ∷ c ∷ info) (check_octets (0x01 ∷ c ∷ info)) in omega arith

fits_by : (a : Result ℕ FrameRefusal) (info : List ℕ) → length info ≤ 64 → fitted (octets_by a info) 68 ≡ octets_by a info
fits_by (Err e) info h = refl
fits_by (Ok c) info h = ap (λ (t : Bool). refuse t NoSpace (Ok (octets_of c info))) (le-ltb 68 (length (octets_of c info)) (long_enough c info h))

fits_unless : (long : Bool) (a : Result ℕ FrameRefusal) (info : List ℕ) → ltb 64 (length info) ≡ long → fitted (octets_by (refuse long Long a) info) 68 ≡ octets_by (refuse long Long a) info
fits_unless true a info h = refl
fits_unless false a info h = fits_by a info (ltb-false 64 (length info) h)

pub fits : (w : Way) (p : Parts) → fitted (frame_octets w p) 68 ≡ frame_octets w p
fits w (parts k ns nr b info) =
    fits_unless (ltb 64 (length info)) (admit_by (control_answer w (head k ns nr b)) (stray k info)) info refl

counted_at : (f : Result (List ℕ) FrameRefusal) (out : List ℕ) (n : ℕ) → Ok n ≡ counted f → f ≡ Ok (take n (laid f out))
counted_at (Err e) out n h = absurd (let z : ◌≡◌ {A = ℕ} 0 1 = cc in omega arith)
counted_at (Ok os) out n h =
    let k : n ≡ length os = cc in
    ap Ok (sym (take_at os (drop (length os) out) n (sym k)))

-- the octets that were counted are the frame's
pub written : (f g : Result (List ℕ) FrameRefusal) (out : List ℕ) (n : ℕ) → f ≡ g → Ok n ≡ counted f → g ≡ Ok (take n (laid f out))
written f g out n same h = sym same ∙ counted_at f out n h

-- and they are there
pub room : (f : Result (List ℕ) FrameRefusal) (out : List ℕ) (n : ℕ) → Ok n ≡ counted f → n ≡ length (take n (laid f out))
room f out n h =
    let e : ◌≡◌ {A = Result ℕ FrameRefusal} (Ok n) (Ok (length (take n (laid f out)))) = h ∙ ap counted (counted_at f out n h) in
    cc

pub refused : (f g : Result (List ℕ) FrameRefusal) (e : FrameRefusal) → f ≡ g → Err e ≡ counted f → g ≡ Err e
refused (Err d) g e same h = let k : d ≡ e = cc in sym same ∙ ap Err k
refused (Ok os) g e same h = absurd (let z : ◌≡◌ {A = ℕ} 0 1 = cc in omega arith)
