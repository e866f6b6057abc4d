-- How calls on the store of one way show in the meaning of the line that two stores make.
use Rattle.std.proofs.Common.{◌≡◌, ℕ, ◌≤◌, Bool, true, false, cond, ltb, leb, List, [], ◌∷◌, ◌++◌, map, length, drop, is_ok, Ok, Err, Result, sym, refl, ap, ◌∙◌, ap₂, arith}
use Rattle.std.proofs.lemmas.List.{length-map}
use Rattle.std.proofs.lemmas.Bool.Decides.{nat_tests}
use Rattle.std.proofs.lemmas.Bool.{cond-true, cond-false}
use Rattle.frames.specs.declared.way.Way.{Way}
use Rattle.frames.specs.declared.way.Way.TheVariants.{One, Two}
use Rattle.lines.specs.declared.refusal.LineRefusal.{LineRefusal}
use Rattle.lines.specs.declared.refusal.LineRefusal.TheVariants.{Full, Idle, NoEntry}
use Rattle.frames.specs.Parts.{Parts}
use Rattle.frames.specs.Writer.{admit_answer}
use Rattle.lines.specs.Entries.{Entry, frame, Lists, on, with_way, at, Bounded}
use Rattle.lines.specs.Line.{put_by, put_answer, put_leaves, oldest, take_answer, take_leaves, strike_by, strike_answer, strike_leaves, hit_at, older, tick_leaves, measured, dead, made}
use Rattle.lines.specs.Stored.{fit, lists_by}

fit_parts : (m n d : ℕ) → fit m n d ≡ true → (m ≡ n) × (m ≤ 64) × (1 ≤ d) × (d ≤ 1000)
fit_parts m n d h = (grind (arith, nat_tests), grind (arith, nat_tests), grind (arith, nat_tests), grind (arith, nat_tests))

on_same : (w : Way) (l : Lists) → with_way w (on w l) l ≡ l
on_same One l = refl
on_same Two l = refl

-- a list of one way that changes by a choice
changed : (w : Way) (l : Lists) (b : Bool) (xs es : List Entry) → es ≡ cond b xs (on w l) → with_way w es l ≡ cond b (with_way w xs l) l
changed w l true xs es e = ap (λ z. with_way w z l) e
changed w l false xs es e = ap (λ z. with_way w z l) e ∙ on_same w l

-- ---- the dead line
on_dead : (w : Way) → on w dead ≡ []
on_dead One = refl
on_dead Two = refl

pub dead_length : (l : Lists) (w : Way) → l ≡ dead → length (on w l) ≡ 0
dead_length l w e = ap (λ k. length (on w k)) e ∙ ap length (on_dead w)

pub dead_put : (l : Lists) (w : Way) (p : Parts) (c : ℕ) → l ≡ dead → Ok c ≡ admit_answer w p → Err Full ≡ put_answer l w p
dead_put l w p c e a =
    ap (λ r. put_by r (ltb 0 0)) a ∙ sym (ap (λ es. put_by (admit_answer w p) (ltb (length es) 0)) (on_dead w)) ∙ sym (ap (λ k. put_answer k w p) e)

pub dead_put_left : (l : Lists) (w : Way) (p : Parts) (c : ℕ) → l ≡ dead → Ok c ≡ admit_answer w p → l ≡ put_leaves l w p
dead_put_left l w p c e a = sym (ap (λ r. cond (is_ok r) (with_way w (on w l ++ frame 0 p ∷ []) l) l) (sym (dead_put l w p c e a)))

pub dead_take : (l : Lists) (w : Way) → l ≡ dead → Err Idle ≡ take_answer l w
dead_take l w e = sym (ap (λ k. oldest (on w k)) e ∙ ap oldest (on_dead w))

pub dead_take_left : (l : Lists) (w : Way) → l ≡ dead → l ≡ take_leaves l w
dead_take_left l w e = e ∙ go w ∙ sym (ap (λ k. take_leaves k w) e)
  where
    go : (w : Way) → dead ≡ take_leaves dead w
    go One = refl
    go Two = refl

pub dead_strike : (l : Lists) (w : Way) (place start mask : ℕ) → l ≡ dead → Err NoEntry ≡ strike_answer l w place start mask
dead_strike l w place start mask e =
    sym (ap (λ k. strike_answer k w place start mask) e ∙ ap (λ es. strike_by (at es place) start mask) (on_dead w))

pub dead_strike_left : (l : Lists) (w : Way) (place start mask : ℕ) → l ≡ dead → l ≡ strike_leaves l w place start mask
dead_strike_left l w place start mask e =
    sym (ap (λ r. cond (is_ok r) (with_way w (hit_at place (on w l)) l) l) (sym (dead_strike l w place start mask e)))

-- ---- two stores, with room for n on way 2
module _ (n : ℕ) (l : Lists) where
  pub by_true : fit l.capacity n l.lifetime ≡ true → lists_by n l ≡ l
  unfolding lists_by
  by_true h = cond-true (fit l.capacity n l.lifetime) _ _ h

  pub by_false : fit l.capacity n l.lifetime ≡ false → lists_by n l ≡ dead
  unfolding lists_by
  by_false h = cond-false (fit l.capacity n l.lifetime) _ _ h

  -- both ways have had a tick
  pub ticked : (k m : ℕ) (es fs : List Entry) → es ≡ older l.lifetime l.one → fs ≡ older l.lifetime l.two → m ≡ l.capacity → k ≡ n →
      lists_by k (record { one = es; two = fs; capacity = m; lifetime = l.lifetime }) ≡ tick_leaves (lists_by n l)
  unfolding lists_by
  ticked k m es fs p q r s =
      ap₂ (λ xs ys. lists_by k (record { one = xs; two = ys; capacity = m; lifetime = l.lifetime })) p q
      ∙ ap₂ (λ x y. lists_by y (record { one = older l.lifetime l.one; two = older l.lifetime l.two; capacity = x; lifetime = l.lifetime })) r s
      ∙ go (fit l.capacity n l.lifetime)
    where
      go : (b : Bool) → cond b (tick_leaves l) dead ≡ tick_leaves (cond b l dead)
      go true = refl
      go false = refl

  by_bounded : length l.one ≤ l.capacity → length l.two ≤ n → Bounded (lists_by n l)
  unfolding lists_by
  by_bounded p q = go (fit l.capacity n l.lifetime) refl
    where
      go : (b : Bool) → fit l.capacity n l.lifetime ≡ b → Bounded (cond b l dead)
      go true e =
          let f = fit_parts l.capacity n l.lifetime e in
          record { capacity = f.1; least = f.2; most = f.3; one = p; two = omega (arith, f.0, q) }
      go false e = record { capacity = omega arith; least = omega arith; most = omega arith; one = omega arith; two = omega arith }

  -- for how many entries the store of a way has room
  abbrev room_on : Way → ℕ
  room_on One = l.capacity
  room_on Two = n

  -- the line once the store of a way has room for k and holds other entries
  abbrev pub after : Way → ℕ → List Entry → Lists
  after One k es = lists_by n (record { one = es; two = l.two; capacity = k; lifetime = l.lifetime })
  after Two k es = lists_by k (record { one = l.one; two = es; capacity = l.capacity; lifetime = l.lifetime })

  module _ (h : fit l.capacity n l.lifetime ≡ true) (w : Way) (k : ℕ) (es : List Entry) (q : k ≡ room_on w) where
    room_is : room_on w ≡ l.capacity
    room_is = go w
      where
        go : (w : Way) → room_on w ≡ l.capacity
        go One = refl
        go Two = sym (fit_parts l.capacity n l.lifetime h).0

    after_is : after w k es ≡ with_way w es l
    unfolding lists_by
    after_is = go w q
      where
        go : (w : Way) → k ≡ room_on w → after w k es ≡ with_way w es l
        go One q = ap (λ m. lists_by n (record { one = es; two = l.two; capacity = m; lifetime = l.lifetime })) q ∙ cond-true (fit l.capacity n l.lifetime) _ _ h
        go Two q = ap (λ m. lists_by m (record { one = l.one; two = es; capacity = l.capacity; lifetime = l.lifetime })) q ∙ cond-true (fit l.capacity n l.lifetime) _ _ h

    module _ (p : Parts) (r : Result (Unit {0}) LineRefusal) (a : r ≡ put_by (admit_answer w p) (ltb (length (on w l)) (room_on w))) where
      put_answered : r ≡ put_answer (lists_by n l) w p
      put_answered =
          a ∙ ap (λ m. put_by (admit_answer w p) (ltb (length (on w l)) m)) room_is ∙ sym (ap (λ z. put_answer z w p) (by_true h))

      put_left : es ≡ cond (is_ok r) (on w l ++ frame 0 p ∷ []) (on w l) → after w k es ≡ put_leaves (lists_by n l) w p
      put_left e =
          after_is ∙ changed w l (is_ok (put_answer l w p)) _ es (e ∙ ap (λ x. cond (is_ok x) (on w l ++ frame 0 p ∷ []) (on w l)) (a ∙ ap (λ m. put_by (admit_answer w p) (ltb (length (on w l)) m)) room_is))
          ∙ sym (ap (λ z. put_leaves z w p) (by_true h))

    take_left : es ≡ drop 1 (on w l) → after w k es ≡ take_leaves (lists_by n l) w
    take_left e = after_is ∙ ap (λ z. with_way w z l) e ∙ sym (ap (λ z. take_leaves z w) (by_true h))

    strike_left : (place start mask : ℕ) (r : Result (Unit {0}) LineRefusal) → r ≡ strike_by (at (on w l) place) start mask →
        es ≡ cond (is_ok r) (hit_at place (on w l)) (on w l) → after w k es ≡ strike_leaves (lists_by n l) w place start mask
    strike_left place start mask r a e =
        after_is ∙ changed w l (is_ok (strike_answer l w place start mask)) _ es (e ∙ ap (λ x. cond (is_ok x) (hit_at place (on w l)) (on w l)) a)
        ∙ sym (ap (λ z. strike_leaves z w place start mask) (by_true h))

-- ---- the entries that the items of two stores mean
module _ {A B : Type 0} (f : A → Entry) (g : B → Entry) (xs : List A) (ys : List B) (m n d : ℕ) where
  abbrev plain : Lists
  plain = record { one = map f xs; two = map g ys; capacity = m; lifetime = d }

  pub bounded : length xs ≤ m → length ys ≤ n → Bounded (lists_by n plain)
  bounded p q = by_bounded n plain (omega (arith, length-map xs f)) (omega (arith, length-map ys g))

  pub counted_one : (w : Way) (k : ℕ) → w ≡ One → fit m n d ≡ true → k ≡ length xs →
      k ≡ length (on w (lists_by n plain))
  counted_one w k e h p =
      p ∙ sym (length-map xs f) ∙ sym (ap (λ l. length (on One l)) (by_true n plain h))
      ∙ sym (ap (λ v. length (on v (lists_by n plain))) e)

  pub counted_two : (w : Way) (k : ℕ) → w ≡ Two → fit m n d ≡ true → k ≡ length ys →
      k ≡ length (on w (lists_by n plain))
  counted_two w k e h p =
      p ∙ sym (length-map ys g) ∙ sym (ap (λ l. length (on Two l)) (by_true n plain h))
      ∙ sym (ap (λ v. length (on v (lists_by n plain))) e)

  module _ (w : Way) (h : fit m n d ≡ true) where
    pub put_one : (p : Parts) (r : Result (Unit {0}) LineRefusal) → w ≡ One → r ≡ put_by (admit_answer One p) (ltb (length xs) m) → r ≡ put_answer (lists_by n plain) w p
    put_one p r e a =
        put_answered n plain h One m [] refl p r (a ∙ ap (λ z. put_by (admit_answer One p) (ltb z m)) (sym (length-map xs f)))
        ∙ sym (ap (λ z. put_answer (lists_by n plain) z p) e)

    pub put_one_left : (p : Parts) (r : Result (Unit {0}) LineRefusal) (k : ℕ) (es : List Entry) → w ≡ One → k ≡ m → r ≡ put_by (admit_answer One p) (ltb (length xs) m) →
        es ≡ cond (is_ok r) (map f xs ++ frame 0 p ∷ []) (map f xs) → lists_by n (record { one = es; two = map g ys; capacity = k; lifetime = d }) ≡ put_leaves (lists_by n plain) w p
    put_one_left p r k es e q a z =
        put_left n plain h One k es q p r (a ∙ ap (λ y. put_by (admit_answer One p) (ltb y m)) (sym (length-map xs f))) z
        ∙ sym (ap (λ y. put_leaves (lists_by n plain) y p) e)

    pub take_one : (r : Result Parts LineRefusal) → w ≡ One → r ≡ oldest (map f xs) → r ≡ take_answer (lists_by n plain) w
    take_one r e a = a ∙ sym (ap (λ z. take_answer z One) (by_true n plain h)) ∙ sym (ap (λ z. take_answer (lists_by n plain) z) e)

    pub take_one_left : (k : ℕ) (es : List Entry) → w ≡ One → k ≡ m → es ≡ drop 1 (map f xs) → lists_by n (record { one = es; two = map g ys; capacity = k; lifetime = d }) ≡ take_leaves (lists_by n plain) w
    take_one_left k es e q z = take_left n plain h One k es q z ∙ sym (ap (λ y. take_leaves (lists_by n plain) y) e)

    module _ (place start mask : ℕ) (r : Result (Unit {0}) LineRefusal) (e : w ≡ One) (a : r ≡ strike_by (at (map f xs) place) start mask) where
      pub strike_one : r ≡ strike_answer (lists_by n plain) w place start mask
      strike_one =
          a ∙ sym (ap (λ z. strike_answer z One place start mask) (by_true n plain h)) ∙ sym (ap (λ z. strike_answer (lists_by n plain) z place start mask) e)

      pub strike_one_left : (k : ℕ) (es : List Entry) → k ≡ m → es ≡ cond (is_ok r) (hit_at place (map f xs)) (map f xs) →
          lists_by n (record { one = es; two = map g ys; capacity = k; lifetime = d }) ≡ strike_leaves (lists_by n plain) w place start mask
      strike_one_left k es q z = strike_left n plain h One k es q place start mask r a z ∙ sym (ap (λ y. strike_leaves (lists_by n plain) y place start mask) e)

    pub put_two : (p : Parts) (r : Result (Unit {0}) LineRefusal) → w ≡ Two → r ≡ put_by (admit_answer Two p) (ltb (length ys) n) → r ≡ put_answer (lists_by n plain) w p
    put_two p r e a =
        put_answered n plain h Two n [] refl p r (a ∙ ap (λ z. put_by (admit_answer Two p) (ltb z n)) (sym (length-map ys g)))
        ∙ sym (ap (λ z. put_answer (lists_by n plain) z p) e)

    pub put_two_left : (p : Parts) (r : Result (Unit {0}) LineRefusal) (k : ℕ) (es : List Entry) → w ≡ Two → k ≡ n → r ≡ put_by (admit_answer Two p) (ltb (length ys) n) →
        es ≡ cond (is_ok r) (map g ys ++ frame 0 p ∷ []) (map g ys) → lists_by k (record { one = map f xs; two = es; capacity = m; lifetime = d }) ≡ put_leaves (lists_by n plain) w p
    put_two_left p r k es e q a z =
        put_left n plain h Two k es q p r (a ∙ ap (λ y. put_by (admit_answer Two p) (ltb y n)) (sym (length-map ys g))) z
        ∙ sym (ap (λ y. put_leaves (lists_by n plain) y p) e)

    pub take_two : (r : Result Parts LineRefusal) → w ≡ Two → r ≡ oldest (map g ys) → r ≡ take_answer (lists_by n plain) w
    take_two r e a = a ∙ sym (ap (λ z. take_answer z Two) (by_true n plain h)) ∙ sym (ap (λ z. take_answer (lists_by n plain) z) e)

    pub take_two_left : (k : ℕ) (es : List Entry) → w ≡ Two → k ≡ n → es ≡ drop 1 (map g ys) → lists_by k (record { one = map f xs; two = es; capacity = m; lifetime = d }) ≡ take_leaves (lists_by n plain) w
    take_two_left k es e q z = take_left n plain h Two k es q z ∙ sym (ap (λ y. take_leaves (lists_by n plain) y) e)

    module _ (place start mask : ℕ) (r : Result (Unit {0}) LineRefusal) (e : w ≡ Two) (a : r ≡ strike_by (at (map g ys) place) start mask) where
      pub strike_two : r ≡ strike_answer (lists_by n plain) w place start mask
      strike_two =
          a ∙ sym (ap (λ z. strike_answer z Two place start mask) (by_true n plain h)) ∙ sym (ap (λ z. strike_answer (lists_by n plain) z place start mask) e)

      pub strike_two_left : (k : ℕ) (es : List Entry) → k ≡ n → es ≡ cond (is_ok r) (hit_at place (map g ys)) (map g ys) →
          lists_by k (record { one = map f xs; two = es; capacity = m; lifetime = d }) ≡ strike_leaves (lists_by n plain) w place start mask
      strike_two_left k es q z = strike_left n plain h Two k es q place start mask r a z ∙ sym (ap (λ y. strike_leaves (lists_by n plain) y place start mask) e)

-- ---- what the calls of a line of two stores go by
pub ruleset takes = (by_false, dead_take, dead_take_left, take_one, take_two, take_one_left, take_two_left)

pub ruleset strikes = (by_false, dead_strike, dead_strike_left, strike_one, strike_two, strike_one_left, strike_two_left)

pub ruleset counts = (by_false, dead_length, bounded, counted_one, counted_two)

pub ruleset measures = (by_true, by_false, bounded, dead_length)

abbrev empty : ℕ → ℕ → Lists
empty k d = record { one = []; two = []; capacity = k; lifetime = d }

-- ---- a line that was just made: two empty stores with room for what was granted, where the memory has room for it
room_made : (k m : ℕ) → k ≤ m → cond (leb k m) k 0 ≡ k
room_made k m h = grind (arith, nat_tests)

made_room : (k d m n : ℕ) → ((made k d m n).capacity ≤ m) × ((made k d m n).capacity ≤ n) × (fit (made k d m n).capacity (made k d m n).capacity (made k d m n).lifetime ≡ true)
made_room k d m n = go (measured k d m n) refl
  where
    go : (b : Bool) → measured k d m n ≡ b → ((cond b (empty k d) dead).capacity ≤ m) × ((cond b (empty k d) dead).capacity ≤ n) × (fit (cond b (empty k d) dead).capacity (cond b (empty k d) dead).capacity (cond b (empty k d) dead).lifetime ≡ true)
    go true h = (grind (arith, nat_tests), grind (arith, nat_tests), grind (arith, nat_tests))
    go false h = (omega arith, omega arith, refl)

made_empty : (k d m n : ℕ) → record { one = []; two = []; capacity = (made k d m n).capacity; lifetime = (made k d m n).lifetime } ≡ made k d m n
made_empty k d m n = go (measured k d m n)
  where
    go : (b : Bool) → record { one = []; two = []; capacity = (cond b (empty k d) dead).capacity; lifetime = (cond b (empty k d) dead).lifetime } ≡ cond b (empty k d) dead
    go true = refl
    go false = refl

module _ {A B : Type 0} (f : A → Entry) (g : B → Entry) (xs : List A) (ys : List B) (k d m n a b e : ℕ) where
  pub made_line : xs ≡ [] → ys ≡ [] → a ≡ cond (leb (made k d m n).capacity m) (made k d m n).capacity 0 → b ≡ cond (leb (made k d m n).capacity n) (made k d m n).capacity 0 → e ≡ (made k d m n).lifetime →
      lists_by b (record { one = map f xs; two = map g ys; capacity = a; lifetime = e }) ≡ made k d m n
  made_line x y p q r =
      let z = made_room k d m n in
      let c = (made k d m n).capacity in
      ap₂ (λ us vs. lists_by b (record { one = map f us; two = map g vs; capacity = a; lifetime = e })) x y
      ∙ ap₂ (λ i j. lists_by j (record { one = []; two = []; capacity = i; lifetime = e })) (p ∙ room_made c m z.0) (q ∙ room_made c n z.1)
      ∙ ap (λ t. lists_by c (record { one = []; two = []; capacity = c; lifetime = t })) r
      ∙ by_true c (record { one = []; two = []; capacity = c; lifetime = (made k d m n).lifetime }) z.2
      ∙ made_empty k d m n
