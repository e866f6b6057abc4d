-- A burst on what stands at a place: what the store then holds, and what it then means.
use Rattle.std.proofs.Common.{◌≡◌, ℕ, zero, suc, ◌+◌, ◌<◌, false, leb, List, [], ◌∷◌, map, set, Some, refl, ap, ◌∙◌, arith}
use Rattle.std.proofs.lemmas.Bool.{ne_eqb}
use Rattle.frames.specs.Parts.{Parts}
use Rattle.lines.specs.Entries.{Entry, at, frame}
use Rattle.lines.specs.Line.{bits, burst_by, strike_by, hit, hit_at}
use Rattle.lines.specs.Stored.{struck_at}

module _ {A : Type 0} where
  pub hit_after : (i : A → Entry) (xs ys : List A) (place : ℕ) (x y : A) → ys ≡ set xs place y → Some x ≡ at xs place → i y ≡ hit (i x) → map i ys ≡ hit_at place (map i xs)
  hit_after i [] ys place x y e s h = absurd (let z : ◌≡◌ {A = ℕ} 0 1 = cc in omega arith)
  hit_after i (z ∷ xs) ys zero x y e s h =
      let q : x ≡ z = cc in
      ap (λ zs. map i zs) e ∙ ap (λ k. k ∷ map i xs) (h ∙ ap (λ k. hit (i k)) q)
  hit_after i (z ∷ xs) ys (suc place) x y e s h =
      ap (λ zs. map i zs) e ∙ ap (λ k. i z ∷ k) (hit_after i xs (set xs place y) place x y refl s h)

  pub struck_after : (f : A → A) (xs ys : List A) (place : ℕ) (x y : A) → ys ≡ set xs place y → Some x ≡ at xs place → y ≡ f x → ys ≡ struck_at f place xs
  struck_after f [] ys place x y e s h = absurd (let z : ◌≡◌ {A = ℕ} 0 1 = cc in omega arith)
  struck_after f (z ∷ xs) ys zero x y e s h = let q : x ≡ z = cc in e ∙ ap (λ k. k ∷ xs) (h ∙ ap f q)
  struck_after f (z ∷ xs) ys (suc place) x y e s h = e ∙ ap (λ k. z ∷ k) (struck_after f xs (set xs place y) place x y refl s h)

-- a burst on a frame that stands
pub by_burst : (a : ℕ) (p : Parts) (start mask : ℕ) → 0 < mask → strike_by (Some (frame a p)) start mask ≡ burst_by false (leb (start + 16) (bits p))
by_burst a p start mask lo = ap (λ m. burst_by m (leb (start + 16) (bits p))) (ne_eqb mask 0 (λ z. omega arith))
