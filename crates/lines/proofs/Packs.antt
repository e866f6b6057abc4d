-- A packed record: what packing writes, what reading it back finds, its age, and its frame once bits were turned over.
use Rattle.std.proofs.Common.{◌≡◌, ℕ, zero, suc, ◌+◌, ◌*◌, ◌<◌, ◌≤◌, Bool, true, false, not, ◌&&◌, ltb, leb, List, [], ◌∷◌, ◌++◌, length, get_or, take, drop, set, replicate, is_ok, Some, cond, Ok, Err, Option, Result, sym, refl, ap, ◌∙◌, subst, ap₂, arith}
use Rattle.std.specs.List.{AllByRecursion}
use Rattle.std.specs.Option.{option_map}
use Rattle.std.specs.Result.{result_ok}
use Rattle.std.proofs.lemmas.List.{length-drop, length-take, length-append, append_assoc, take-append-le, take_at, drop_at}
use Rattle.std.proofs.ByRecursion.{All-push, All-drop}
use Rattle.std.proofs.lemmas.Bool.{cond-false, lt-ltb, le-ltb, ne_eqb, ltb-false}
use Rattle.frames.specs.declared.way.Way.{Way}
use Rattle.frames.specs.declared.refusal.FrameRefusal.{FrameRefusal}
use Rattle.frames.specs.declared.frame_buf.FrameBuf.{FrameBuf}
use Rattle.frames.specs.Parts.{Parts, parts, info_of}
use Rattle.frames.specs.Blocks.{parts_in, owned, owns}
use Rattle.frames.specs.Reader.{read_answer}
use borrow.Rule.Slice.PartMut.{put_mid, post_of, put_same}
use Rattle.frames.specs.Refusals.{refuse}
use Rattle.frames.specs.declared.refusal.FrameRefusal.TheVariants.{Check, Long, NoSpace}
use Rattle.frames.specs.Writer.{laid, octets_of, octets_by, frame_octets, admit_answer, fitted, counted, write_answer, write_leaves}
use Rattle.frames.specs.Laws.{ReadsBack, Seen}
use Rattle.frames.specs.Bits.{strike_answer, strike_leaves}
use Rattle.frames.proofs.Reading.{past}
use Rattle.frames.proofs.Writing.{octets_length}
use Rattle.lines.specs.Entries.{Entry, struck, frame}
use Rattle.lines.specs.Line.{bits, burst_by, strike_by, hit}
use Rattle.lines.specs.Packed.{age_in, frame_in, struck_octets, Whole, entry_read, packed_entry}
use Rattle.lines.specs.Stored.{age, aged, entry_told, Packs}
use Rattle.lines.proofs.Hits.{by_burst}

-- ---- the sizes of a frame that can be written
pub record Sized (os : List ℕ) (p : Parts) : Type 0 where
  pub whole : length os ≡ 4 + length (info_of p)
  pub short : length (info_of p) ≤ 64

octets_sized : (a : Result ℕ FrameRefusal) (i os : List ℕ) → octets_by a i ≡ Ok os → length os ≡ 4 + length i
octets_sized (Err e) i os h = let z : ◌≡◌ {A = ℕ} 0 1 = cc in absurd (omega arith)
octets_sized (Ok c) i os h = let q : os ≡ octets_of c i = cc in omega (arith, ap length q, octets_length c i)

admitted : (a : Result ℕ FrameRefusal) (i os : List ℕ) → octets_by a i ≡ Ok os → (c : ℕ) × (a ≡ Ok c)
admitted (Err e) i os h = let z : ◌≡◌ {A = ℕ} 0 1 = cc in absurd (omega arith)
admitted (Ok c) i os h = (c, refl)

pub sized : (w : Way) (p : Parts) (os : List ℕ) → frame_octets w p ≡ Ok os → Sized os p
sized w (parts k s r b i) os h =
    let a = admitted (admit_answer w (parts k s r b i)) i os h in
    let f = past (ltb 64 (length i)) Long _ a.0 a.1 in
    record { whole = octets_sized (admit_answer w (parts k s r b i)) i os h; short = ltb-false 64 (length i) f.0 }

-- ---- reading a record
read_long : (w : Way) (os : List ℕ) → 68 < length os → read_answer w os ≡ Err Long
read_long w os h = simp (le-ltb (length os) 4 (omega arith), lt-ltb 68 (length os) h)

module _ (w : Way) (r : List ℕ) where
  pub too_long : length r ≡ 72 → 68 < get_or r 0 0 → packed_entry w r ≡ struck (age_in r)
  unfolding packed_entry
  too_long l h = ap (entry_read (age_in r)) (read_long w (frame_in r) (simp (length-take, length-drop) (omega arith)))

  module _ (m : ℕ) (e : m ≡ get_or r 0 0) where
    part : take m (drop 3 r) ≡ frame_in r
    part = ap (λ k. take k (drop 3 r)) e

    pub unread : (x : FrameRefusal) → Err x ≡ read_answer w (take m (drop 3 r)) → packed_entry w r ≡ struck (age_in r)
    unfolding packed_entry
    unread x h = ap (entry_read (age_in r)) (ap (read_answer w) (sym part) ∙ sym h)

    pub is_read : (p : Parts) → Ok p ≡ read_answer w (take m (drop 3 r)) → packed_entry w r ≡ frame (age_in r) p
    unfolding packed_entry
    is_read p h = ap (entry_read (age_in r)) (ap (read_answer w) (sym part) ∙ sym h)

-- ---- another age
aged_read : (n a : ℕ) (x : Result Parts FrameRefusal) → entry_read n x ≡ aged n (entry_read a x)
aged_read n a (Ok p) = refl
aged_read n a (Err e) = refl

pub age_set : (w : Way) (r : List ℕ) (low high a : ℕ) → low + high * 256 ≡ a → length r ≡ 72 → packed_entry w (set (set r 1 low) 2 high) ≡ aged a (packed_entry w r)
unfolding packed_entry
age_set w [] low high a e l = absurd (omega arith)
age_set w (x ∷ []) low high a e l = absurd (omega arith)
age_set w (x ∷ y ∷ []) low high a e l = absurd (omega arith)
age_set w (x ∷ y ∷ z ∷ rest) low high a e l =
    ap (λ n. entry_read n (read_answer w (take x rest))) e ∙ aged_read a (y + z * 256) (read_answer w (take x rest))

pub packed_age : (w : Way) (r : List ℕ) → age (packed_entry w r) ≡ age_in r
unfolding packed_entry
packed_age w r = go (read_answer w (frame_in r))
  where
    go : (x : Result Parts FrameRefusal) → age (entry_read (age_in r) x) ≡ age_in r
    go (Ok p) = refl
    go (Err e) = refl

-- ---- bits turned over
module _ (a : ℕ) (p : Parts) (start mask : ℕ) (lo : 0 < mask) where
  struck_bits : (len : ℕ) → len ≡ 4 + length (info_of p) → strike_answer len start mask ≡ leb (start + 16) (bits p)
  struck_bits len e = ap₂ (λ m k. not m && leb (start + 16) (8 * k)) (ne_eqb mask 0 (λ z. omega arith)) e

  -- what the frame's own strike answers is what the entry's does
  burst_told : (e : Entry) (len : ℕ) (t : Bool) → e ≡ frame a p → len ≡ 4 + length (info_of p) → strike_answer len start mask ≡ t →
      burst_by false t ≡ strike_by (Some e) start mask
  burst_told e len t h n q =
      sym (ap (λ x. strike_by (Some x) start mask) h ∙ by_burst a p start mask lo ∙ ap (burst_by false) (sym (struck_bits len n) ∙ q))

module _ (w : Way) (m : ℕ) where
  -- the entry, after octets that do not read took the place of the frame's
  hit_entry : (r ys : List ℕ) (p : Parts) (x : FrameRefusal) → length r ≡ 72 → m ≡ get_or r 0 0 → length ys ≡ m → packed_entry w r ≡ frame (age_in r) p →
      read_answer w ys ≡ Err x → packed_entry w (put_mid 3 m r ys) ≡ hit (packed_entry w r)
  unfolding packed_entry
  hit_entry [] ys p x l e n f h = absurd (omega arith)
  hit_entry (i ∷ []) ys p x l e n f h = absurd (omega arith)
  hit_entry (i ∷ j ∷ []) ys p x l e n f h = absurd (omega arith)
  hit_entry (i ∷ j ∷ k ∷ rest) ys p x l e n f h =
      ap (λ os. entry_read (j + k * 256) (read_answer w os)) (take_at ys (post_of 3 m (i ∷ j ∷ k ∷ rest)) i (omega arith))
      ∙ ap (entry_read (j + k * 256)) h ∙ sym (ap hit f)

  hit_whole : (r ys : List ℕ) → m ≡ get_or r 0 0 → length ys ≡ m → m ≤ 68 → Whole r → Whole (put_mid 3 m r ys)
  hit_whole [] ys e n b h = let l = h.size in absurd (omega arith)
  hit_whole (i ∷ []) ys e n b h = let l = h.size in absurd (omega arith)
  hit_whole (i ∷ j ∷ []) ys e n b h = let l = h.size in absurd (omega arith)
  hit_whole (i ∷ j ∷ k ∷ rest) ys e n b h =
      let l = h.size in
      record {
        size = omega (arith, length-append ys (drop m rest), length-drop m rest);
        zeros = subst (λ os. AllByRecursion (λ o. o ≡ 0) os) (ap (λ c. drop c rest) (sym e) ∙ sym (drop_at ys (drop m rest) i (omega arith))) h.zeros;
      }

  -- put back as it was
  hit_none : (r ys : List ℕ) → ys ≡ take m (drop 3 r) → put_mid 3 m r ys ≡ r
  hit_none r ys e = ap (put_mid 3 m r) e ∙ put_same 3 m r

-- what a burst on the octets of a record's frame does to the record, where t is whether it was granted
pub record Struck (w : Way) (r zs : List ℕ) (start mask : ℕ) (t : Bool) : Type 0 where
  pub whole : Whole zs
  pub answers : burst_by false t ≡ strike_by (Some (packed_entry w r)) start mask
  pub leaves : packed_entry w zs ≡ cond t (hit (packed_entry w r)) (packed_entry w r)
  pub flips : zs ≡ cond t (struck_octets start mask r) r

pub struck_by : (w : Way) (r ys : List ℕ) (m : ℕ) (p : Parts) (start mask : ℕ) (t : Bool) → m ≡ get_or r 0 0 → m ≤ 68 → Whole r →
    Ok p ≡ read_answer w (take m (drop 3 r)) → frame_octets w p ≡ Ok (take m (drop 3 r)) → 0 < mask → t ≡ strike_answer (length (take m (drop 3 r))) start mask →
    ys ≡ strike_leaves start mask (take m (drop 3 r)) → Seen (take m (drop 3 r)) t ys → length ys ≡ length (take m (drop 3 r)) → Struck w r (put_mid 3 m r ys) start mask t
struck_by w r ys m p start mask t e b h a wb lo q y seen k =
    let f = is_read w r m e p a in
    let z = sized w p (take m (drop 3 r)) wb in
    let l : length ys ≡ m = let n = h.size in omega (arith, k, length-take m (drop 3 r), length-drop 3 r) in
    record {
      whole = hit_whole w m r ys e l b h;
      answers = burst_told (age_in r) p start mask lo _ (length (take m (drop 3 r))) t f z.whole (sym q);
      leaves = entry t q seen l f;
      flips = octets t q l;
    }
  where
    entry : (t : Bool) → t ≡ strike_answer (length (take m (drop 3 r))) start mask → Seen (take m (drop 3 r)) t ys → length ys ≡ m → packed_entry w r ≡ frame (age_in r) p →
        packed_entry w (put_mid 3 m r ys) ≡ cond t (hit (packed_entry w r)) (packed_entry w r)
    entry true q seen l f = hit_entry w m r ys p Check h.size e l f (seen w p (sym a) refl)
    entry false q seen l f = ap (packed_entry w) (hit_none w m r ys (y ∙ cond-false _ _ _ (sym q)))

    octets : (t : Bool) → t ≡ strike_answer (length (take m (drop 3 r))) start mask → length ys ≡ m → put_mid 3 m r ys ≡ cond t (struck_octets start mask r) r
    octets true q l =
        ap (λ zs. take 3 r ++ (zs ++ drop m (drop 3 r))) y
        ∙ ap (λ k. take 3 r ++ (strike_leaves start mask (take k (drop 3 r)) ++ drop k (drop 3 r))) e
    octets false q l = hit_none w m r ys (y ∙ cond-false _ _ _ (sym q))

-- ---- packing
record Written (x : Result (List ℕ) FrameRefusal) (zs : List ℕ) (n : ℕ) : Type 0 where
  os : List ℕ
  is : x ≡ Ok os
  count : n ≡ length os
  room : length os ≤ length zs
  leaves : laid (fitted x (length zs)) zs ≡ os ++ drop (length os) zs

written : (x : Result (List ℕ) FrameRefusal) (zs : List ℕ) (n : ℕ) → Ok n ≡ counted (fitted x (length zs)) → Written x zs n
written (Err e) zs n h = let z : ◌≡◌ {A = ℕ} 0 1 = cc in absurd (omega arith)
written (Ok os) zs n h = go (ltb (length zs) (length os)) refl h
  where
    go : (t : Bool) → ltb (length zs) (length os) ≡ t → Ok n ≡ counted (refuse t NoSpace (Ok os)) → Written (Ok os) zs n
    go true e h = let z : ◌≡◌ {A = ℕ} 0 1 = cc in absurd (omega arith)
    go false e h =
        record {
          os = os;
          is = refl;
          count = cc;
          room = ltb-false (length zs) (length os) e;
          leaves = ap (λ t. laid (refuse t NoSpace (Ok os)) zs) e;
        }

pub zeros : (n : ℕ) → AllByRecursion (λ (o : ℕ). o ≡ 0) (replicate n 0)
zeros zero = tt
zeros (suc n) = (refl, zeros n)

module _ (w : Way) (p : Parts) (zs out : List ℕ) where
  pub pack_ok : (n : ℕ) → Ok n ≡ write_answer w p (length zs) → out ≡ write_leaves w p zs → ReadsBack w p (Ok n) out → AllByRecursion (λ o. o ≡ 0) zs → length out ≡ 68 →
      Packs (packed_entry w) w p (Ok (n ∷ 0 ∷ 0 ∷ (out ++ 0 ∷ []))) × Whole (n ∷ 0 ∷ 0 ∷ (out ++ 0 ∷ []))
  unfolding packed_entry
  pack_ok n a o b h k =
      let x = written (frame_octets w p) zs n a in
      let c = admitted (admit_answer w p) (info_of p) x.os x.is in
      let e : out ≡ x.os ++ drop (length x.os) zs = o ∙ x.leaves in
      let l : n ≤ length out = omega (arith, x.count, ap length e, length-append x.os (drop (length x.os) zs)) in
      let tail : drop n (out ++ 0 ∷ []) ≡ drop (length x.os) zs ++ 0 ∷ [] =
      ap (λ y. drop n (y ++ 0 ∷ [])) e ∙ ap (drop n) (append_assoc x.os (drop (length x.os) zs) (0 ∷ []))
      ∙ drop_at x.os (drop (length x.os) zs ++ 0 ∷ []) n (sym x.count) in (
        (ap is_ok c.1, ap (λ y. entry_read 0 (read_answer w y)) (take-append-le n out (0 ∷ []) l) ∙ ap (entry_read 0) (b n refl)),
        record {
          size = omega (arith, k, length-append out (0 ∷ []));
          zeros = subst (λ y. AllByRecursion (λ o. o ≡ 0) y) (sym tail) (All-push (λ o. o ≡ 0) (drop (length x.os) zs) 0 (All-drop (λ o. o ≡ 0) (length x.os) zs h) refl);
        },
      )

pub pack_err : (w : Way) (p : Parts) (e : FrameRefusal) (room : ℕ) → 68 ≤ room → Err e ≡ write_answer w p room → admit_answer w p ≡ Err e
pack_err w p e room l h = go (admit_answer w p) refl
  where
    go : (a : Result ℕ FrameRefusal) → admit_answer w p ≡ a → admit_answer w p ≡ Err e
    go (Err x) q = let h' : Err e ≡ counted (fitted (octets_by (Err x) (info_of p)) room) = h ∙ ap (λ a. counted (fitted (octets_by a (info_of p)) room)) q in cc
    go (Ok c) q =
        let z = sized w p (octets_of c (info_of p)) (ap (λ a. octets_by a (info_of p)) q) in
        let h' : Err e ≡ counted (refuse (ltb room (length (octets_of c (info_of p)))) NoSpace (Ok (octets_of c (info_of p)))) =
        h ∙ ap (λ a. counted (fitted (octets_by a (info_of p)) room)) q in
        let f : ltb room (length (octets_of c (info_of p))) ≡ false = le-ltb room (length (octets_of c (info_of p))) (omega (arith, z.whole, z.short)) in
        let k : Err e ≡ Ok (length (octets_of c (info_of p))) = h' ∙ ap (λ t. counted (refuse t NoSpace (Ok (octets_of c (info_of p))))) f in
        let z : ◌≡◌ {A = ℕ} 0 1 = cc in absurd (omega arith)

-- a frame whose information is at most 64 octets is owned with the same parts
pub own_told : (o : Result FrameBuf FrameRefusal) (p : Parts) → length (info_of p) ≤ 64 → owned o ≡ owns p
    → option_map parts_in (result_ok o) ≡ Some p
own_told (Ok f) p h e =
    let g : Ok (parts_in f) ≡ Ok p = e ∙ ap (λ b. cond b (Err Long) (Ok p)) (le-ltb 64 (length (info_of p)) h) in
    cc
own_told (Err x) p h e =
    let g : ◌≡◌ {A = Result Parts FrameRefusal} (Err x) (Ok p) = e ∙ ap (λ b. cond b (Err Long) (Ok p)) (le-ltb 64 (length (info_of p)) h) in
    absurd (let z : ◌≡◌ {A = ℕ} 0 1 = cc in omega arith)

-- an entry by the frame that was taken out of it
pub told_struck : (e : Entry) (a : ℕ) → e ≡ struck a → e ≡ struck (age e)
told_struck e a h = h ∙ ap (λ x. struck (age x)) (sym h)

pub told_frame : (e : Entry) (a : ℕ) (p : Parts) (o : Option Parts) → e ≡ frame a p → o ≡ Some p → e ≡ entry_told (age e) o
told_frame e a p o h q = h ∙ ap (λ x. entry_told (age x) (Some p)) (sym h) ∙ ap (entry_told (age e)) (sym q)
