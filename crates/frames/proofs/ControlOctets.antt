-- A control octet says what it was written from, and is written from what it says.
use Rattle.std.proofs.Common.{◌≡◌, ℕ, zero, suc, ◌<◌, Bool, true, false, ◌&&◌, T, eqb, Some, None, Option, sym, ap, subst, inl, inr, not-suc-le-zero, arith, eqb→eq}
use Rattle.std.proofs.lemmas.Bool.{eqb-true, eqb-false, cases_Bool}
use Rattle.std.proofs.lemmas.Bool.Decides.{nat_tests}
use Rattle.frames.specs.declared.way.Way.{Way}
use Rattle.frames.specs.declared.way.Way.TheVariants.{One, Two}
use Rattle.frames.specs.declared.kind.Kind.{Kind}
use Rattle.frames.specs.declared.kind.Kind.TheVariants.{I, Rr, Rnr, Sarm, Disc, Ua, Dm}
use Rattle.frames.specs.Parts.{Head, head}
use Rattle.frames.specs.Control.{carries, numbered, control, control_answer, decode}

-- ---- what is written is said
pub says : (w : Way) (k : Kind) (s r b : ℕ) → (carries w k && numbered k s r b) ≡ true
    → decode w (control k s r b) ≡ Some (head k s r b)
says w I s r b g = grind (arith, nat_tests)
says w Rr s r b g = grind (arith, nat_tests)
says w Rnr s r b g = grind (arith, nat_tests)
says One Sarm s r b g = grind (arith, nat_tests)
says Two Sarm s r b g = grind (arith, nat_tests)
says One Disc s r b g = grind (arith, nat_tests)
says Two Disc s r b g = grind (arith, nat_tests)
says One Ua s r b g = grind (arith, nat_tests)
says Two Ua s r b g = grind (arith, nat_tests)
says One Dm s r b g = grind (arith, nat_tests)
says Two Dm s r b g = grind (arith, nat_tests)

-- ---- what is said is written: one test over all octets, which antt computes
same : Option ℕ → ℕ → Bool
same None c = false
same (Some d) c = eqb d c

back : Way → Option Head → ℕ → Bool
back w None c = true
back w (Some h) c = same (control_answer w h) c

right : Way → ℕ → Bool
right w c = back w (decode w c) c

and : Bool → Bool → Bool
and true b = b
and false b = false

and_left : (a b : Bool) → T (and a b) → T a
unfolding and
and_left true b t = tt
and_left false b t = t

and_right : (a b : Bool) → T (and a b) → T b
unfolding and
and_right true b t = t
and_right false b t = absurd t

-- the test passes at each number below n
below : (ℕ → Bool) → ℕ → Bool
below f zero = true
below f (suc n) = and (f n) (below f n)

below_at : (f : ℕ → Bool) (n k : ℕ) → T (below f n) → k < n → T (f k)
unfolding below
below_at f zero k t h = absurd (not-suc-le-zero h)
below_at f (suc n) k t h =
    elim (cases_Bool (eqb k n)) [
      | inl e ↦ subst (λ (m : ℕ). T (f m)) (sym (eqb-true k n e)) (and_left (f n) (below f n) t)
      | inr e ↦ below_at f n k (and_right (f n) (below f n) t) (omega (arith, eqb-false k n e))
    ]

all_right : (w : Way) → T (below (right w) 256)
unfolding below and right back same
all_right One = tt
all_right Two = tt

told : (w : Way) (c : ℕ) (o : Option Head) (h : Head) → o ≡ Some h → T (back w o c) → T (same (control_answer w h) c)
unfolding back
told w c o h e t = subst (λ (x : Option Head). T (back w x c)) e t

same_is : (o : Option ℕ) (c : ℕ) → T (same o c) → o ≡ Some c
unfolding same
same_is None c t = absurd t
same_is (Some d) c t = ap Some (eqb→eq d c t)

pub written_from : (w : Way) (c : ℕ) (h : Head) → c < 256 → decode w c ≡ Some h → control_answer w h ≡ Some c
unfolding right
written_from w c h l e =
    same_is (control_answer w h) c (told w c (decode w c) h e (below_at (right w) 256 c (all_right w) l))
