-- A tick on one way: each entry's turn in order makes every entry older by one and lets those too old leave.
use Rattle.std.proofs.Common.{◌≡◌, ℕ, ◌+◌, ◌<◌, Bool, true, false, leb, List, [], ◌∷◌, ◌++◌, length, get_or, take, drop, sym, refl, ap, ◌∙◌}
use Rattle.std.proofs.lemmas.List.{append_assoc, take_more, drop_more}
use Rattle.lines.specs.Entries.{Entry, struck, frame}
use Rattle.lines.specs.Line.{keep_by, older}
use Rattle.lines.specs.Stored.{turned}

keep_append : (b : Bool) (e : Entry) (xs ys : List Entry) → keep_by b e (xs ++ ys) ≡ keep_by b e xs ++ ys
keep_append true e xs ys = refl
keep_append false e xs ys = refl

older_append : (d : ℕ) (xs ys : List Entry) → older d (xs ++ ys) ≡ older d xs ++ older d ys
older_append d [] ys = refl
older_append d (struck a ∷ xs) ys =
    ap (keep_by (leb (a + 1) d) (struck (a + 1))) (older_append d xs ys) ∙ keep_append (leb (a + 1) d) (struck (a + 1)) (older d xs) (older d ys)
older_append d (frame a p ∷ xs) ys =
    ap (keep_by (leb (a + 1) d) (frame (a + 1) p)) (older_append d xs ys) ∙ keep_append (leb (a + 1) d) (frame (a + 1) p) (older d xs) (older d ys)

-- one more turn, after the turns of the first i
pub turn_more : (d i : ℕ) (xs zs ws : List Entry) → i < length xs → zs ≡ drop i xs ++ older d (take i xs) → ws ≡ turned d zs →
    ws ≡ drop (i + 1) xs ++ older d (take (i + 1) xs)
turn_more d i xs zs ws h p q =
    let x : Entry = struck 0 in
    let y : Entry = get_or xs i x in
    let a : zs ≡ (y ∷ drop (i + 1) xs) ++ older d (take i xs) = p ∙ ap (λ t. t ++ older d (take i xs)) (drop_more xs i x h) in
    let b : ws ≡ (drop (i + 1) xs ++ older d (take i xs)) ++ older d (y ∷ []) = q ∙ ap (λ t. turned d t) a in
    b ∙ append_assoc (drop (i + 1) xs) (older d (take i xs)) (older d (y ∷ [])) ∙
    ap (λ t. drop (i + 1) xs ++ t) (sym (older_append d (take i xs) (y ∷ [])) ∙ sym (ap (λ t. older d t) (take_more xs i x h)))
