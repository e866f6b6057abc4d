-- An element read out of a list, or another where there is none, and one more element copied.
use Rattle.std.proofs.Common.{◌≡◌, ℕ, zero, suc, ◌+◌, ◌<◌, List, [], ◌∷◌, ◌++◌, length, get_or, take, drop, set, sym, refl, ap, ◌∙◌, arith}
use Rattle.std.specs.Option.{unwrap_or}
use lib.Seq.{append_snoc}
use Rattle.std.proofs.lemmas.List.{length-take-le, take_more, drop_more, set_at}
use Rattle.lines.specs.Entries.{at}

module _ {E : Type 0} where
  pub got_or : (xs : List E) (i : ℕ) (d : E) → unwrap_or (at xs i) d ≡ get_or xs i d
  got_or [] i d = refl
  got_or (x ∷ xs) zero d = refl
  got_or (x ∷ xs) (suc i) d = got_or xs i d

  pub copy_more : (s o : List E) (j : ℕ) (d : E) → j < length s → j < length o → set (take j s ++ drop j o) j (get_or s j d) ≡ take (j + 1) s ++ drop (j + 1) o
  copy_more s o j d h l =
      ap (λ y. set (take j s ++ y) j (get_or s j d)) (drop_more o j d l)
      ∙ set_at (take j s) (get_or o j d) (drop (j + 1) o) (get_or s j d) j (length-take-le j s (omega arith))
      ∙ sym (append_snoc (take j s) (get_or s j d) (drop (j + 1) o)) ∙ ap (λ y. y ++ drop (j + 1) o) (sym (take_more s j d h))
