-- Octets cut into records of 72: what the moves of a ring do to its records.
use Rattle.std.proofs.Common.{◌≡◌, ℕ, zero, suc, ◌+◌, ◌*◌, ◌/◌, ◌%◌, ◌<◌, ◌≤◌, Bool, true, false, cond, ltb, leb, List, [], ◌∷◌, ◌++◌, length, take, drop, set, Some, None, Option, sym, refl, ap, ◌∙◌, subst, ap₂, ⊎_elim, arith, take-add}
use Rattle.std.specs.List.{AllByRecursion}
use Rattle.std.proofs.lemmas.List.{length-drop, length-take, length-append, length-take-le, take_all, append_assoc, drop-drop, take-append-le, drop-append-le, nil_from_length, take_at, drop_at, set_past}
use Rattle.std.proofs.ByRecursion.{All-push}
use Rattle.std.proofs.lemmas.Bool.{cases_lt, cond-true, lt-ltb, le-ltb, lt-leb, le-leb}
use Rattle.lines.specs.Entries.{at}
use Rattle.lines.specs.Octets.{pieces, cut}
use Rattle.lines.specs.Rooms.{cut_length}
use Rattle.lines.specs.Packed.{Neat}
use Rattle.lines.specs.Ring.{laid}

pieces_push : (n : ℕ) (xs r : List ℕ) → length xs ≡ 72 * n → length r ≡ 72 → pieces (suc n) (xs ++ r) ≡ pieces n xs ++ r ∷ []
pieces_push zero xs r e l =
    ap (λ y. take 72 (y ++ r) ∷ []) (nil_from_length xs e) ∙ ap (λ y. y ∷ []) (take_all 72 r (omega arith))
pieces_push (suc n) xs r e l =
    let h : 72 ≤ length xs = omega arith in
    ap₂ (λ y z. y ∷ pieces (suc n) z) (take-append-le 72 xs r h) (drop-append-le 72 xs r h)
    ∙ ap (λ y. take 72 xs ∷ y) (pieces_push n (drop 72 xs) r (length-drop 72 xs ∙ omega arith) l)

cut_push : (xs r : List ℕ) → length xs % 72 ≡ 0 → length r ≡ 72 → cut (xs ++ r) ≡ cut xs ++ r ∷ []
unfolding cut
cut_push xs r e l =
    let n : length (xs ++ r) / 72 ≡ suc (length xs / 72) = simp length-append (omega arith) in
    ap (λ k. pieces k (xs ++ r)) n ∙ pieces_push (length xs / 72) xs r (omega arith) l

pub cut_shed : (xs : List ℕ) → cut (drop 72 xs) ≡ drop 1 (cut xs)
unfolding cut
cut_shed xs = ⊎_elim
    (λ (h : length xs < 72).
    let a : length xs / 72 ≡ 0 = omega arith in
    let b : length (drop 72 xs) / 72 ≡ 0 = simp length-drop (omega arith) in
    ap (λ k. pieces k (drop 72 xs)) b ∙ sym (ap (λ k. drop 1 (pieces k xs)) a))
    (λ (h : 72 ≤ length xs).
    let a : length xs / 72 ≡ suc (length (drop 72 xs) / 72) = simp length-drop (omega arith) in
    sym (ap (λ k. drop 1 (pieces k xs)) a))
    (cases_lt (length xs) 72)

pieces_at : (n : ℕ) (xs : List ℕ) (i : ℕ) → i < n → at (pieces n xs) i ≡ Some (take 72 (drop (72 * i) xs))
pieces_at zero xs i h = absurd (omega arith)
pieces_at (suc n) xs zero h = refl
pieces_at (suc n) xs (suc i) h =
    let e : 72 + 72 * i ≡ 72 * suc i = omega arith in
    pieces_at n (drop 72 xs) i (omega arith) ∙ ap (λ y. Some (take 72 y)) (drop-drop (72 * i) 72 xs ∙ ap (λ k. drop k xs) e)

pieces_none : (n : ℕ) (xs : List ℕ) (i : ℕ) → n ≤ i → at (pieces n xs) i ≡ None
pieces_none zero xs i h = refl
pieces_none (suc n) xs zero h = absurd (omega arith)
pieces_none (suc n) xs (suc i) h = pieces_none n (drop 72 xs) i (omega arith)

pub cut_at : (xs : List ℕ) (i : ℕ) → i < length xs / 72 → Some (take 72 (drop (72 * i) xs)) ≡ at (cut xs) i
unfolding cut
cut_at xs i h = sym (pieces_at (length xs / 72) xs i h)

pub cut_none : (xs : List ℕ) (i : ℕ) → length xs / 72 ≤ i → None ≡ at (cut xs) i
unfolding cut
cut_none xs i h = sym (pieces_none (length xs / 72) xs i h)

laid_drop : (xs r : List ℕ) (k : ℕ) → 72 + k + 72 ≤ length xs → length r ≡ 72 → (take 72 (laid xs (72 + k) r) ≡ take 72 xs) × (drop 72 (laid xs (72 + k) r) ≡ laid (drop 72 xs) k r)
laid_drop xs r k h l =
    let a : List ℕ = take 72 xs in
    let b : List ℕ = take k (drop 72 xs) in
    let la : length (take 72 xs) ≡ 72 = length-take-le 72 xs (omega arith) in
    let n : 72 + (k + length r) ≡ 72 + k + length r = omega arith in
    let e : drop (72 + k + length r) xs ≡ drop (k + length r) (drop 72 xs) = ap (λ m. drop m xs) (sym n) ∙ sym (drop-drop (k + length r) 72 xs) in
    let s : laid xs (72 + k) r ≡ take 72 xs ++ laid (drop 72 xs) k r =
    ap₂ (λ y z. y ++ r ++ z) (take-add 72 k xs) e
    ∙ ap (λ y. y ++ drop (k + length r) (drop 72 xs)) (append_assoc (take 72 xs) (take k (drop 72 xs)) r)
    ∙ append_assoc (take 72 xs) (take k (drop 72 xs) ++ r) (drop (k + length r) (drop 72 xs)) in
    (ap (λ y. take 72 y) s ∙ take_at (take 72 xs) (laid (drop 72 xs) k r) 72 la, ap (λ y. drop 72 y) s ∙ drop_at (take 72 xs) (laid (drop 72 xs) k r) 72 la)

pieces_set : (n : ℕ) (xs r : List ℕ) (i : ℕ) → i < n → 72 * n ≤ length xs → length r ≡ 72 → pieces n (laid xs (72 * i) r) ≡ set (pieces n xs) i r
pieces_set zero xs r i h m l = absurd (omega arith)
pieces_set (suc n) xs r zero h m l =
    let e : 0 + length r ≡ 72 = omega arith in
    ap₂ (λ y z. y ∷ pieces n z) (take_at r (drop (0 + length r) xs) 72 l) (drop_at r (drop (0 + length r) xs) 72 l ∙ ap (λ k. drop k xs) e)
pieces_set (suc n) xs r (suc i) h m l =
    let e : 72 * suc i ≡ 72 + 72 * i = omega arith in
    let d = laid_drop xs r (72 * i) (omega arith) l in
    ap (λ k. pieces (suc n) (laid xs k r)) e ∙ ap₂ (λ y z. y ∷ pieces n z) d.0 d.1
    ∙ ap (λ y. take 72 xs ∷ y) (pieces_set n (drop 72 xs) r i (omega arith) (let q : 72 * n ≤ length (drop 72 xs) = simp length-drop (omega arith) in q) l)

laid_length : (xs r : List ℕ) (k : ℕ) → k + length r ≤ length xs → length (laid xs k r) ≡ length xs
laid_length xs r k h = simp (length-append, length-take, length-drop) (omega arith)

cut_set : (xs r : List ℕ) (i : ℕ) → i < length xs / 72 → length r ≡ 72 → cut (laid xs (72 * i) r) ≡ set (cut xs) i r
unfolding cut
cut_set xs r i h l =
    let n : length (laid xs (72 * i) r) ≡ length xs = laid_length xs r (72 * i) (omega arith) in
    ap (λ k. pieces (k / 72) (laid xs (72 * i) r)) n ∙ pieces_set (length xs / 72) xs r i h (omega arith) l

pub cut_set_past : (xs r : List ℕ) (i : ℕ) → length xs / 72 ≤ i → cut xs ≡ set (cut xs) i r
cut_set_past xs r i h = sym (set_past (cut xs) i r (omega (arith, cut_length xs)))

-- ---- what the moves of a ring do to its records
pub append_fits : (es : List ℕ) (n cap : ℕ) (r : Bool) → length es % 72 ≡ 0 → n ≡ 72 → r ≡ leb (length es + n) cap → r ≡ ltb (length (cut es)) (cap / 72)
append_fits es n cap r a l f =
    let c : length (cut es) ≡ length es / 72 = cut_length es in
    ⊎_elim
    (λ (h : length es / 72 < cap / 72). f ∙ le-leb (length es + n) cap (omega arith) ∙ sym (lt-ltb (length (cut es)) (cap / 72) (omega arith)))
    (λ (h : cap / 72 ≤ length es / 72). f ∙ lt-leb (length es + n) cap (omega arith) ∙ sym (le-ltb (length (cut es)) (cap / 72) (omega arith)))
    (cases_lt (length es / 72) (cap / 72))

pub append_holds : (es fs rec : List ℕ) (r : Bool) → length es % 72 ≡ 0 → length rec ≡ 72 → fs ≡ cond r (es ++ rec) es → cut fs ≡ cond r (cut es ++ rec ∷ []) (cut es)
append_holds es fs rec true a l e = ap cut e ∙ cut_push es rec a l
append_holds es fs rec false a l e = ap cut e

pub append_even : (es fs rec : List ℕ) (r : Bool) → length rec ≡ 72 → fs ≡ cond r (es ++ rec) es → length fs % 72 ≡ length es % 72
append_even es fs rec true l e = ap (λ y. length y % 72) e ∙ simp length-append (omega arith)
append_even es fs rec false l e = ap (λ y. length y % 72) e

pub peeked : (es out zs : List ℕ) (from n : ℕ) (r : Bool) → n ≡ 72 → r ≡ true → out ≡ cond r (take n (drop from es)) zs → out ≡ take 72 (drop from es)
peeked es out zs from n r l h e = e ∙ cond-true r _ _ h ∙ ap (λ k. take k (drop from es)) l

pub poked : (es fs rec : List ℕ) (i : ℕ) (r : Bool) → i < length es / 72 → length rec ≡ 72 → r ≡ leb (72 * i + length rec) (length es) → fs ≡ cond r (laid es (72 * i) rec) es →
    (cut fs ≡ set (cut es) i rec) × (length fs % 72 ≡ length es % 72)
poked es fs rec i r h l f e =
    let t : r ≡ true = f ∙ le-leb (72 * i + length rec) (length es) (omega arith) in
    let g : fs ≡ laid es (72 * i) rec = e ∙ cond-true r _ _ t in
    (ap cut g ∙ cut_set es rec i h l, ap (λ y. length y % 72) g ∙ ap (λ k. k % 72) (laid_length es rec (72 * i) (omega arith)))

pub first_whole : (es r : List ℕ) → Some r ≡ at (cut es) 0 → 72 ≤ length es
first_whole es r e = ⊎_elim
    (λ (h : length es < 72). let n : ◌≡◌ {A = Option (List ℕ)} None (Some r) = cut_none es 0 (omega arith) ∙ sym e in absurd (let z : ◌≡◌ {A = ℕ} 0 1 = cc in omega arith))
    (λ (h : 72 ≤ length es). h)
    (cases_lt (length es) 72)

pub shed_even : (es fs : List ℕ) → 72 ≤ length es → fs ≡ drop 72 es → length fs % 72 ≡ length es % 72
shed_even es fs h e = ap (λ y. length y % 72) e ∙ simp length-drop (omega arith)

-- no octets are no records
pub no_cut : cut [] ≡ []
unfolding cut
no_cut = refl

pub no_records : (es : List ℕ) → es ≡ [] → (length es % 72 ≡ 0) × AllByRecursion Neat (cut es)
no_records es e = (ap (λ y. length y % 72) e, subst (λ rs. AllByRecursion Neat rs) (sym (ap cut e ∙ no_cut)) tt)

-- ---- what is zero stays zero
pub neat_push : (es fs : List (List ℕ)) (r : List ℕ) (t : Bool) → fs ≡ cond t (es ++ r ∷ []) es → AllByRecursion Neat es → Neat r → AllByRecursion Neat fs
neat_push es fs r true e h n = subst (λ xs. AllByRecursion Neat xs) (sym e) (All-push Neat es r h n)
neat_push es fs r false e h n = subst (λ xs. AllByRecursion Neat xs) (sym e) h

pub neat_at : (es : List (List ℕ)) (i : ℕ) (r : List ℕ) → Some r ≡ at es i → AllByRecursion Neat es → Neat r
neat_at [] i r e h = let z : ◌≡◌ {A = ℕ} 0 1 = cc in absurd (omega arith)
neat_at (x ∷ es) zero r e h = let q : r ≡ x = cc in subst Neat (sym q) h.0
neat_at (x ∷ es) (suc i) r e h = neat_at es i r e h.1
