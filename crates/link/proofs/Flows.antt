-- What a way holds between two open ends: frames whose numbers and blocks fit what either end has done.
use Rattle.std.proofs.Common.{◌≡◌, ℕ, ◌+◌, ◌%◌, ◌<◌, ◌≤◌, max, Bool, true, false, ltb, List, [], ◌∷◌, ◌++◌, length, get_or, drop, sym, refl, ap, ◌∙◌, subst, arith}
use Rattle.std.proofs.lemmas.List.{length_push, get_or_append_left, drop_more, length-drop}
use Rattle.frames.specs.declared.kind.Kind.{Kind}
use Rattle.frames.specs.declared.kind.Kind.TheVariants.{I, Rr, Rnr, Disc}
use Rattle.frames.specs.Parts.{parts}
use Rattle.lines.specs.Entries.{Entry, struck, frame}
use Rattle.stations.specs.Station.{Block, Station, status_by}
use Rattle.stations.specs.Puts.{put_by, plain, again_from}
use Rattle.link.proofs.Thinning.{Thin, none, mute, same, hit, gone}
use Rattle.link.proofs.Marks.{Marks, blank, unmarked, no_mark}

-- N(R) is the residue of v, and no less than lo are told
pub record Tells (nr lo v : ℕ) : Type 0 where
  pub number : v % 8 ≡ nr
  pub low : lo ≤ v

-- N(S) is the residue of n, and x the block accepted at n; m is at most 7 past n
pub record Carries (blocks : List Block) (ns m n : ℕ) (x : Block) : Type 0 where
  pub number : n % 8 ≡ ns
  pub accepted : n < length blocks
  pub block : x ≡ get_or blocks n []
  pub near : m ≤ n + 7

-- blocks: what the sender has accepted; hi: how many it has taken in; m: how many the receiver may have taken in when
-- the entry comes to the front; lo: how many were then acknowledged to the receiver; where the index is true, a DISC
-- may stand last
pub data Stream (blocks : List Block) (hi : ℕ) : Bool → ℕ → ℕ → List Entry → Type 0 where
  done : {c : Bool} {m lo : ℕ} → lo ≤ hi → m ≤ length blocks → Stream blocks hi c m lo []
  skip : {c : Bool} {m lo a : ℕ} {es : List Entry} →
      Stream blocks hi c m lo es → Stream blocks hi c m lo (struck a ∷ es)
  info : {c : Bool} {m lo a ns nr b n v : ℕ} {x : Block} {es : List Entry} →
      Carries blocks ns m n x → Tells nr lo v → Stream blocks hi c (max m (n + 1)) v es →
      Stream blocks hi c m lo (frame a (parts I ns nr b x) ∷ es)
  status : {c : Bool} {m lo a ns nr b v : ℕ} {x : Block} {es : List Entry} (busy : Bool) →
      Tells nr lo v → Stream blocks hi c m v es →
      Stream blocks hi c m lo (frame a (parts (status_by busy) ns nr b x) ∷ es)
  disc : {m lo a ns nr b : ℕ} {x : Block} →
      lo ≤ hi → m ≤ length blocks → Stream blocks hi true m lo (frame a (parts Disc ns nr b x) ∷ [])

-- between two open ends no DISC is on its way
abbrev pub Flow : List Block → ℕ → ℕ → ℕ → List Entry → Type 0
Flow blocks hi m lo es = Stream blocks hi false m lo es

-- a list that is not empty from n on is longer than n
pub within : {X : Type 0} (n : ℕ) (xs : List X) (z : X) (zs : List X) → z ∷ zs ≡ drop n xs → n < length xs
within n xs z zs e = let l = ap length e in omega (arith, length-drop n xs, l)

carries_less : {blocks : List Block} {ns m n : ℕ} {x : Block} (m' : ℕ) →
    m' ≤ m → Carries blocks ns m n x → Carries blocks ns m' n x
carries_less m' l c = record { number = c.number; accepted = c.accepted; block = c.block; near = omega arith }

carries_push : {blocks : List Block} {ns m n : ℕ} {x : Block} (z : Block) →
    Carries blocks ns m n x → Carries (blocks ++ (z ∷ [])) ns m n x
carries_push {blocks} {n = n} z c =
    record {
      number = c.number;
      accepted = omega (arith, length_push blocks z);
      block = c.block ∙ sym (get_or_append_left blocks (z ∷ []) [] n c.accepted);
      near = c.near;
    }

module _ {blocks : List Block} {hi : ℕ} where
  -- the receiver is told of no more than the sender has taken in, and has taken in no more than was accepted
  pub flow_low : {c : Bool} {m lo : ℕ} {es : List Entry} → Stream blocks hi c m lo es → lo ≤ hi
  flow_low (done l h) = l
  flow_low (disc l h) = l
  flow_low (skip f) = flow_low f
  flow_low (info c t f) = let k = flow_low f in omega arith
  flow_low (status w t f) = let k = flow_low f in omega arith

  pub flow_most : {c : Bool} {m lo : ℕ} {es : List Entry} → Stream blocks hi c m lo es → m ≤ length blocks
  flow_most (done l h) = h
  flow_most (disc l h) = h
  flow_most (skip f) = flow_most f
  flow_most (info c t f) = let k = flow_most f in omega arith
  flow_most (status w t f) = flow_most f

  -- less taken in, less acknowledged
  pub flow_less : {c : Bool} {m lo : ℕ} {es : List Entry} (m' lo' : ℕ) →
      m' ≤ m → lo' ≤ lo → Stream blocks hi c m lo es → Stream blocks hi c m' lo' es
  flow_less m' lo' a b (done l h) = done (omega arith) (omega arith)
  flow_less m' lo' a b (disc l h) = disc (omega arith) (omega arith)
  flow_less m' lo' a b (skip f) = skip (flow_less m' lo' a b f)
  flow_less m' lo' a b (info {n = n} {v = v} c t f) =
      info (carries_less m' a c) (record { number = t.number; low = omega arith })
      (flow_less (max m' (n + 1)) v (omega arith) (omega arith) f)
  flow_less m' lo' a b (status {v = v} w t f) =
      status w (record { number = t.number; low = omega arith }) (flow_less m' v a (omega arith) f)

  -- the sender has taken in more
  pub flow_more : {m lo : ℕ} {es : List Entry} (hi' : ℕ) → hi ≤ hi' → Flow blocks hi m lo es → Flow blocks hi' m lo es
  flow_more hi' a (done l h) = done (omega arith) h
  flow_more hi' a (skip f) = skip (flow_more hi' a f)
  flow_more hi' a (info c t f) = info c t (flow_more hi' a f)
  flow_more hi' a (status w t f) = status w t (flow_more hi' a f)

  -- the sender has accepted one more
  pub flow_accept : {m lo : ℕ} {es : List Entry} (z : Block) →
      Flow blocks hi m lo es → Flow (blocks ++ (z ∷ [])) hi m lo es
  flow_accept z (done l h) = done l (omega (arith, length_push blocks z))
  flow_accept z (skip f) = skip (flow_accept z f)
  flow_accept z (info c t f) = info (carries_push z c) t (flow_accept z f)
  flow_accept z (status w t f) = status w t (flow_accept z f)

  -- the sender puts the block accepted at n
  pub flow_info : {m lo : ℕ} {es : List Entry} (ns nr b n : ℕ) (x : Block) →
      hi % 8 ≡ nr → Carries blocks ns (length blocks) n x → Flow blocks hi m lo es →
      Flow blocks hi m lo (es ++ (frame 0 (parts I ns nr b x) ∷ []))
  flow_info {m} ns nr b n x e c (done l h) =
      info {n = n} (carries_less m h c) (record { number = e; low = l }) (done (omega arith) (omega arith))
  flow_info ns nr b n x e c (skip f) = skip (flow_info ns nr b n x e c f)
  flow_info ns nr b n x e c (info d t f) = info d t (flow_info ns nr b n x e c f)
  flow_info ns nr b n x e c (status w t f) = status w t (flow_info ns nr b n x e c f)

  pub flow_put_info : {m lo : ℕ} {es : List Entry} (room : Bool) (ns nr b n : ℕ) (x : Block) →
      hi % 8 ≡ nr → Carries blocks ns (length blocks) n x → Flow blocks hi m lo es →
      Flow blocks hi m lo (put_by room es (parts I ns nr b x))
  flow_put_info true ns nr b n x e c f = flow_info ns nr b n x e c f
  flow_put_info false ns nr b n x e c f = f

  -- the sender puts its status
  flow_status : {m lo : ℕ} {es : List Entry} (busy : Bool) (ns nr b : ℕ) (x : Block) →
      hi % 8 ≡ nr → Flow blocks hi m lo es →
      Flow blocks hi m lo (es ++ (frame 0 (parts (status_by busy) ns nr b x) ∷ []))
  flow_status busy ns nr b x e (done l h) = status busy (record { number = e; low = l }) (done (omega arith) h)
  flow_status busy ns nr b x e (skip f) = skip (flow_status busy ns nr b x e f)
  flow_status busy ns nr b x e (info d t f) = info d t (flow_status busy ns nr b x e f)
  flow_status busy ns nr b x e (status w t f) = status w t (flow_status busy ns nr b x e f)

  pub flow_put_status : {m lo : ℕ} {es : List Entry} (room busy : Bool) (ns nr b : ℕ) (x : Block) →
      hi % 8 ≡ nr → Flow blocks hi m lo es → Flow blocks hi m lo (put_by room es (parts (status_by busy) ns nr b x))
  flow_put_status true busy ns nr b x e f = flow_status busy ns nr b x e f
  flow_put_status false busy ns nr b x e f = f

  -- the sender puts again what it accepted from n on
  pub flow_again : {m lo : ℕ} (k : ℕ) (x : Station) (n ns : ℕ) (zs : List Block) {es : List Entry} →
      hi % 8 ≡ x.vr → n % 8 ≡ ns → length blocks ≤ n + 7 → zs ≡ drop n blocks → Flow blocks hi m lo es →
      Flow blocks hi m lo (again_from k x ns zs es)
  flow_again k x n ns [] e q r d f = f
  flow_again k x n ns (z ∷ zs) {es} e q r d f =
      let l : n < length blocks = within n blocks z zs d in
      let both : z ∷ zs ≡ get_or blocks n [] ∷ drop (n + 1) blocks = d ∙ drop_more blocks n [] l in
      let head : z ≡ get_or blocks n [] = cc in
      let tail : zs ≡ drop (n + 1) blocks = cc in
      let c : Carries blocks ns (length blocks) n z = record { number = q; accepted = l; block = head; near = r } in
      flow_again k x (n + 1) ((ns + 1) % 8) zs e (omega arith) (omega arith) tail
      (flow_put_info (ltb (length es) k) ns x.vr 0 n z e c f)

  -- a flow that is thinned is a flow
  pub flow_thin : {es fs : List Entry} → Thin es fs →
      {c : Bool} {m lo : ℕ} → Stream blocks hi c m lo es → Stream blocks hi c m lo fs
  flow_thin none (done l h) = done l h
  flow_thin (mute t) (skip f) = skip (flow_thin t f)
  flow_thin (same t) (info c s f) = info c s (flow_thin t f)
  flow_thin (same t) (status w s f) = status w s (flow_thin t f)
  flow_thin (hit t) {c} {m} {lo} (info d s f) = skip (flow_less m lo (omega arith) s.low (flow_thin t f))
  flow_thin (hit t) {c} {m} {lo} (status w s f) = skip (flow_less m lo (omega arith) s.low (flow_thin t f))
  flow_thin (gone t) (skip f) = flow_thin t f
  flow_thin (gone t) {c} {m} {lo} (info d s f) = flow_less m lo (omega arith) s.low (flow_thin t f)
  flow_thin (gone t) {c} {m} {lo} (status w s f) = flow_less m lo (omega arith) s.low (flow_thin t f)
  flow_thin (same none) (disc l h) = disc l h
  flow_thin (hit none) (disc l h) = skip (done l h)
  flow_thin (gone none) (disc l h) = done l h

  -- a DISC may go out where none is on its way
  flow_disc : {d : ℕ} {P : ℕ → Type 0} {c : Bool} {m lo : ℕ} {es : List Entry} →
      Stream blocks hi c m lo es → Marks d P false es → Stream blocks hi true m lo (es ++ (frame 0 (plain Disc) ∷ []))
  flow_disc (done l h) w = disc l h
  flow_disc (skip f) (blank l w) = skip (flow_disc f w)
  flow_disc (info c t f) (unmarked y z w) = info c t (flow_disc f w)
  flow_disc (status u t f) (unmarked y z w) = status u t (flow_disc f w)
  flow_disc (disc l h) w = absurd (no_mark refl w)

  flow_free : {d : ℕ} {P : ℕ → Type 0} {c : Bool} {m lo : ℕ} {es : List Entry} →
      Stream blocks hi c m lo es → Marks d P false es → Stream blocks hi true m lo es
  flow_free (done l h) w = done l h
  flow_free (skip f) (blank l w) = skip (flow_free f w)
  flow_free (info c t f) (unmarked y z w) = info c t (flow_free f w)
  flow_free (status u t f) (unmarked y z w) = status u t (flow_free f w)
  flow_free (disc l h) w = absurd (no_mark refl w)

  pub flow_put_disc : {d : ℕ} {P : ℕ → Type 0} {c : Bool} {m lo : ℕ} {es : List Entry} (room : Bool) →
      Stream blocks hi c m lo es → Marks d P false es → Stream blocks hi true m lo (put_by room es (plain Disc))
  flow_put_disc true f w = flow_disc f w
  flow_put_disc false f w = flow_free f w

-- a flow whose first frame is a status frame
no_status : (w : Bool) (k : Kind) → k ≡ status_by w → (k ≡ Rr → ⊥) → (k ≡ Rnr → ⊥) → ⊥
no_status true k e f h = h e
no_status false k e f h = f e

pub status_front : {blocks : List Block} {hi : ℕ} {c : Bool} {m lo : ℕ} {fs : List Entry} (w : Bool) {a ns nr b : ℕ} {x : Block} {es : List Entry} →
    Stream blocks hi c m lo fs → fs ≡ frame a (parts (status_by w) ns nr b x) ∷ es →
    (v : ℕ) × Tells nr lo v × Stream blocks hi c m v es
status_front w (done l h) e = cc
status_front w (skip f) e = cc
status_front w (info c t f) e =
    let k : I ≡ status_by w = cc in
    absurd (no_status w I k (λ q. cc) (λ q. cc))
status_front {blocks} {hi} {c} {m} {lo} w {nr = nr} {es = es} (status {nr = nr'} {v = v} {es = es'} busy t f) e =
    let n : nr' ≡ nr = cc in
    let tail : es' ≡ es = cc in
    (v, subst (λ k. Tells k lo v) n t, subst (Stream blocks hi c m v) tail f)
status_front w (disc l h) e =
    let k : Disc ≡ status_by w = cc in
    absurd (no_status w Disc k (λ q. cc) (λ q. cc))
