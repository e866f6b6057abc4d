-- Sending again, block by block.
use Rattle.std.proofs.Common.{◌≡◌, ℕ, zero, suc, ◌+◌, ◌-◌, ◌%◌, ◌<◌, ◌≤◌, Bool, true, false, ltb, List, [], ◌∷◌, length, get_or, drop, sym, refl, ap, ◌∙◌, ap₂, arith}
use Rattle.std.proofs.lemmas.List.{drop_more, length_push}
use Rattle.frames.specs.declared.way.Way.{Way}
use Rattle.frames.specs.declared.way.Way.TheVariants.{One, Two}
use Rattle.frames.specs.Parts.{Parts}
use Rattle.lines.specs.Entries.{Entry, frame, Lists, on, with_way}
use Rattle.stations.specs.declared.answer.Counts.{Counts}
use Rattle.stations.specs.Counts.{all_of}
use Rattle.stations.specs.Station.{Block, Station}
use Rattle.stations.specs.Puts.{put, put_by, inform, again_from, again_by, again, tries_by, again_tries, counts}

-- ---- one way of a line

pub on_with : (w : Way) (es : List Entry) (l : Lists) → on w (with_way w es l) ≡ es
on_with One es l = refl
on_with Two es l = refl

pub with_with : (w : Way) (es fs : List Entry) (l : Lists) → with_way w fs (with_way w es l) ≡ with_way w fs l
with_with One es fs l = refl
with_with Two es fs l = refl

pub capacity_with : (w : Way) (es : List Entry) (l : Lists) → (with_way w es l).capacity ≡ l.capacity
capacity_with One es l = refl
capacity_with Two es l = refl

-- ---- counting: the way grows by as many frames as are tried, at most

pub record Grows (n : ℕ) (es fs : List Entry) : Type 0 where
  pub least : length es ≤ length fs
  pub most : length fs ≤ length es + n

grows_by : (room : Bool) (es : List Entry) (p : Parts) → Grows 1 es (put_by room es p)
grows_by true es p = record { least = omega (arith, length_push es (frame 0 p)); most = omega (arith, length_push es (frame 0 p)) }
grows_by false es p = record { least = omega arith; most = omega arith }

pub put_grows : (k : ℕ) (es : List Entry) (p : Parts) → Grows 1 es (put k es p)
put_grows k es p = grows_by (ltb (length es) k) es p

pub grows_more : (m n : ℕ) (es fs gs : List Entry) → Grows m es fs → Grows n fs gs → Grows (m + n) es gs
grows_more m n es fs gs p q =
    record { least = omega (arith, p.least, q.least); most = omega (arith, p.most, q.most) }

again_from_grows : (k : ℕ) (x : Station) (ns : ℕ) (zs : List Block) (es : List Entry) → Grows (length zs) es (again_from k x ns zs es)
again_from_grows k x ns [] es = record { least = omega arith; most = omega arith }
again_from_grows k x ns (z ∷ zs) es =
    let p = put_grows k es (inform x ns z) in
    let r = again_from_grows k x ((ns + 1) % 8) zs (put k es (inform x ns z)) in
    record { least = omega (arith, p.least, r.least); most = omega (arith, p.most, r.most) }

pub again_grows : (k : ℕ) (x : Station) (es : List Entry) → Grows (again_tries x) es (again k x es)
again_grows k x es = go x.busy
  where
    go : (busy : Bool) → Grows (tries_by busy x.window) es (again_by busy k x es)
    go true = record { least = omega arith; most = omega arith }
    go false = again_from_grows k x x.va x.window es

-- of n frames tried, what the way grew by was put
abbrev pub grown : ℕ → List Entry → List Entry → Counts
grown n es fs = record { put = length fs - length es; lost = n - (length fs - length es) }

counts_grown : (n : ℕ) (es fs : List Entry) → Grows n es fs → counts n es fs ≡ grown n es fs
counts_grown zero es fs g = let h : 0 ≡ length fs - length es = omega (arith, g.least, g.most) in ap (λ k. record { put = k; lost = 0 - k }) h
counts_grown (suc n) es fs g = refl

-- some frames, then some more
pub counts_more : (m n t : ℕ) (es fs gs : List Entry) → Grows m es fs → Grows n fs gs → m + n ≡ t
    → all_of (counts m es fs) (counts n fs gs) ≡ counts t es gs
counts_more m n t es fs gs p q e =
    let a : length fs - length es + (length gs - length fs) ≡ length gs - length es = omega (arith, p.least, q.least) in
    let b : m - (length fs - length es) + (n - (length gs - length fs)) ≡ t - (length gs - length es) =
    omega (arith, e, p.least, p.most, q.least, q.most) in
    let some : all_of (counts m es fs) (counts n fs gs) ≡ all_of (grown m es fs) (grown n fs gs) =
    ap₂ all_of (counts_grown m es fs p) (counts_grown n fs gs q) in
    let all : all_of (grown m es fs) (grown n fs gs) ≡ grown t es gs = ap₂ (λ x y. record { put = x; lost = y }) a b in
    let g : Grows t es gs = record { least = omega (arith, p.least, q.least); most = omega (arith, e, p.most, q.most) } in
    some ∙ all ∙ sym (counts_grown t es gs g)

-- ---- block by block

module _ (k : ℕ) (x : Station) (zs : List Block) where
  pub again_more : (ns i : ℕ) (es fs : List Entry) → i < length zs → fs ≡ put k es (inform x ns (get_or zs i []))
      → again_from k x ((ns + 1) % 8) (drop (i + 1) zs) fs ≡ again_from k x ns (drop i zs) es
  again_more ns i es fs h e =
      ap (again_from k x ((ns + 1) % 8) (drop (i + 1) zs)) e
      ∙ sym (ap (λ ys. again_from k x ns ys es) (drop_more zs i [] h))

-- a line that differs from another on one way alone, and differs there again
pub record OnlyOn (w : Way) (l m n : Lists) (es : List Entry) : Type 0 where
  pub line : n ≡ with_way w (on w n) l
  pub way : on w n ≡ es
  pub capacity : m.capacity ≡ l.capacity

pub only_on : (w : Way) (l m n : Lists) (es : List Entry) → m ≡ with_way w (on w m) l → n ≡ with_way w es m → OnlyOn w l m n es
only_on w l m n es e f =
    let o : on w n ≡ es = ap (on w) f ∙ on_with w es m in
    record {
      line = f ∙ ap (with_way w es) e ∙ with_with w (on w m) es l ∙ ap (λ fs. with_way w fs l) (sym o);
      way = o;
      capacity = ap (λ (k : Lists). k.capacity) e ∙ capacity_with w (on w m) l;
    }
