-- Rows of blocks: what joins the end, what leaves the front, what stands at a place.
use Rattle.std.proofs.Common.{◌≡◌, ℕ, zero, suc, ◌+◌, ◌-◌, ◌≤◌, min, List, [], ◌∷◌, map, length, take, drop, sym, ap, ◌∙◌, arith}
use Rattle.std.proofs.lemmas.List.{length-map, length-take-le, drop-map, drop-take, length-drop, take_at, drop_all}
use Rattle.frames.specs.declared.block.Block.{Block}
use Rattle.frames.specs.Blocks.{octets_in}
use lib.Seq.{paste}

abbrev pub row : ℕ → List Block → List (List ℕ)
row n bs = map octets_in (take n bs)

pub row_length : (n : ℕ) (bs : List Block) → n ≤ length bs → length (row n bs) ≡ n
row_length n bs h = length-map (take n bs) octets_in ∙ length-take-le n bs h

-- those behind the first n move down to the front
pub row_drop : (n c : ℕ) (bs : List Block) → n ≤ c → c ≤ length bs → row (c - n) (paste bs 0 (drop n bs) (c - n)) ≡ drop n (row c bs)
row_drop n c bs p h =
    let l : length (take (c - n) (drop n bs)) ≡ c - n = length-take-le (c - n) (drop n bs) (omega (arith, length-drop n bs)) in
    let m : n + (c - n) ≡ c = omega arith in
    ap (map octets_in)
    (take_at (take (c - n) (drop n bs)) (drop (0 + (c - n)) bs) (c - n) l ∙ sym (drop-take n (c - n) bs) ∙ ap (λ k. drop n (take k bs)) m)
    ∙ sym (drop-map octets_in n (take c bs))

-- to drop more than there are is to drop all
pub drop_least : {A : Type 0} (xs : List A) (n c : ℕ) → length xs ≡ c → drop (min n c) xs ≡ drop n xs
drop_least [] n c e = drop_all (min n c) [] (omega arith) ∙ sym (drop_all n [] (omega arith))
drop_least (x ∷ xs) zero c e = ap (λ m. drop m (x ∷ xs)) (let h : min 0 c ≡ 0 = omega arith in h)
drop_least (x ∷ xs) (suc n) c e =
    let h : min (suc n) c ≡ suc (min n (c - 1)) = omega arith in
    ap (λ m. drop m (x ∷ xs)) h ∙ drop_least xs n (c - 1) (omega arith)
