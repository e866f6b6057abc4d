-- What writing leaves in the memory that it is given.
use Rattle.std.proofs.Common.{◌≡◌, ℕ, suc, ◌+◌, ◌-◌, ◌/◌, ◌%◌, ◌^◌, ◌<◌, ◌≤◌, Bool, cond, List, [], ◌∷◌, ◌++◌, length, take, drop, set, Ok, Err, Result, sym, refl, ap, ◌∙◌, ap₂, append_assoc, arith, length-append}
use borrow.Rule.Slice.PartMut.{put_mid}
use Rattle.std.specs.Int.{to_le_bytes, w16}
use Rattle.std.proofs.lemmas.List.{drop-drop, take_at, drop_at}
use Rattle.std.proofs.lemmas.Bool.{le-ltb, lt-ltb}
use Rattle.frames.specs.declared.refusal.FrameRefusal.{FrameRefusal}
use Rattle.frames.specs.declared.refusal.FrameRefusal.TheVariants.{NoSpace}
use Rattle.frames.specs.Fcs.{fcs, check_octets}
use Rattle.frames.specs.Writer.{octets_of, octets_by, fitted}

-- octets written behind a front
behind_front : (p rest ys : List ℕ) (n k : ℕ) → length p ≡ n → put_mid n k (p ++ rest) ys ≡ p ++ (ys ++ drop k rest)
behind_front p rest ys n k e = ap₂ (λ a b. a ++ (ys ++ drop k b)) (take_at p rest n e) (drop_at p rest n e)

-- the two octets of a check sequence, the low one first
pub two_octets : (sum : ℕ) (os : List ℕ) → sum ≡ fcs os → sum < 2 ^ 16 → to_le_bytes w16 sum ≡ check_octets os
two_octets sum os e h =
    let u : sum / 256 ^ 1 % 256 ≡ sum / 256 = omega arith in
    ap (λ b. sum % 256 ∷ b ∷ []) u ∙ ap (λ n. n % 256 ∷ n / 256 ∷ []) e

module _ (c : ℕ) (info : List ℕ) where
  -- the memory after the first two octets and the information
  front : (out : List ℕ) → length info + 4 ≤ length out
      → put_mid 2 (length info + 2 - 2) (set (set out 0 1) 1 c) info ≡ (1 ∷ c ∷ info) ++ drop (length info) (drop 2 out)
  front [] h = absurd (omega arith)
  front (a ∷ []) h = absurd (omega arith)
  front (a ∷ b ∷ t) h =
      let n : length info + 2 - 2 ≡ length info = omega arith in
      ap (λ k. 1 ∷ c ∷ (info ++ drop k t)) n

  pub summed : (out ys : List ℕ) (sum : ℕ) → length info + 4 ≤ length out → ys ≡ info
      → sum ≡ fcs (take (length info + 2 - 0) (put_mid 2 (length info + 2 - 2) (set (set out 0 1) 1 c) ys))
      → sum ≡ fcs (1 ∷ c ∷ info)
  summed out ys sum h e s =
      let n : length info + 2 - 0 ≡ suc (suc (length info)) = omega arith in
      s
      ∙ ap fcs
      (ap₂ take n (ap (put_mid 2 (length info + 2 - 2) (set (set out 0 1) 1 c)) e ∙ front out h)
      ∙ take_at (1 ∷ c ∷ info) (drop (length info) (drop 2 out)) (suc (suc (length info))) refl)

  pub lain : (out ys two : List ℕ) → length info + 4 ≤ length out → ys ≡ info → two ≡ check_octets (1 ∷ c ∷ info)
      → put_mid (length info + 2) (length info + 2 + 2 - (length info + 2)) (put_mid 2 (length info + 2 - 2) (set (set out 0 1) 1 c) ys) two
      ≡ octets_of c info ++ drop (length info + 4) out
  lain out ys two h e t =
      let n : suc (suc (length info)) ≡ length info + 2 = omega arith in
      let k : length info + 2 + 2 - (length info + 2) ≡ 2 = omega arith in
      let rest : List ℕ = drop (length info) (drop 2 out) in
      ap (λ zs. put_mid (length info + 2) (length info + 2 + 2 - (length info + 2)) zs two)
      (ap (put_mid 2 (length info + 2 - 2) (set (set out 0 1) 1 c)) e ∙ front out h)
      ∙ behind_front (1 ∷ c ∷ info) rest two (length info + 2) (length info + 2 + 2 - (length info + 2)) n
      ∙ ap₂ (λ zs m. (1 ∷ c ∷ info) ++ (zs ++ drop m rest)) t k
      ∙ ap (λ zs. (1 ∷ c ∷ info) ++ (check_octets (1 ∷ c ∷ info) ++ zs))
      (drop-drop 2 (length info) (drop 2 out) ∙ drop-drop (length info + 2) 2 out ∙ ap (λ i. drop i out) again)
      ∙ sym (append_assoc (1 ∷ c ∷ info) (check_octets (1 ∷ c ∷ info)) (drop (length info + 4) out))
    where
      again : 2 + (length info + 2) ≡ length info + 4
      again = omega arith

pub octets_length : (c : ℕ) (i : List ℕ) → length (octets_of c i) ≡ length i + 4
octets_length c i = simp length-append (omega arith)

module _ (a : Result ℕ FrameRefusal) (c : ℕ) (i : List ℕ) (room : ℕ) (e : a ≡ Ok c) where
  pub fits : length i + 4 ≤ room → fitted (octets_by a i) room ≡ Ok (octets_of c i)
  fits h =
      ap (λ x. fitted (octets_by x i) room) e
      ∙ ap (λ (b : Bool). cond b (Err NoSpace) (Ok (octets_of c i))) (le-ltb room (length (octets_of c i)) (simp (octets_length c i) h))

  pub full : room < length i + 4 → fitted (octets_by a i) room ≡ Err NoSpace
  full h =
      ap (λ x. fitted (octets_by x i) room) e
      ∙ ap (λ (b : Bool). cond b (Err NoSpace) (Ok (octets_of c i))) (lt-ltb room (length (octets_of c i)) (simp (octets_length c i) h))
