use Rattle.std.proofs.Common.{◌≡◌, suc, ◌+◌, ◌-◌, ◌*◌, ◌/◌, ◌%◌, ◌^◌, ◌<◌, true, cond, eqb, length, get_or, set, sym, ap, ◌∙◌, ap₂, arith, rules}
use lib.Bits.{bit_xor}
use Rattle.std.proofs.lemmas.Nat.{one_shl}
use Rattle.std.proofs.lemmas.Bool.{eq-eqb, ne_eqb}
use Rattle.std.proofs.lemmas.Bool.Decides.{nat_tests}
use Rattle.frames.specs.Reader.{read_answer}
use Rattle.frames.specs.Bits.{flip_bit, flips, strike_answer, strike_leaves}
use Rattle.frames.proofs.Runs.{flips_on, flips_done}
use Rattle.frames.proofs.Strikes.{seen}
use Rattle.frames.proofs.bits.strike.Goals as goal
use Rattle.frames.proofs.bits.strike.Goals.{then-rest-eq1, else-rest-eq1}

-- one turn turns over the bit that the mask names, or none
turned : (c : goal.Joined-rest-eq1)
    → c.if-rest-eq1.octets ≡ cond (eqb (c.loop-i.rest % 2) 1) (flip_bit (c.args.burst.start / 8 * 8 + c.loop-i.i) c.loop-i.octets) c.loop-i.octets
turned c =
    let i = c.loop-i.i in
    let f = c.args.burst.start / 8 in
    let b = c.args.burst.start / 8 * 8 + c.loop-i.i in
    let o = c.loop-i.octets in
    let m : c.loop-i.i % 8 < 8 = omega arith in
    let q : c.args.burst.start / 8 + c.loop-i.i / 8 ≡ (c.args.burst.start / 8 * 8 + c.loop-i.i) / 8 = omega arith in
    let r : c.loop-i.i % 8 ≡ (c.args.burst.start / 8 * 8 + c.loop-i.i) % 8 = omega arith in
    elim c.if-rest-eq1.branch [
      | then-rest-eq1 w ↦
          w.octets-is
          ∙ ap (λ x. set o (f + i / 8) (bit_xor (get_or o (f + i / 8) 0) x)) (one_shl (i % 8) 8 m)
          ∙ ap₂ (λ x y. set o x (bit_xor (get_or o x 0) (2 ^ y))) q r
          ∙ sym (ap (λ t. cond t (flip_bit b o) o) (eq-eqb (c.loop-i.rest % 2) 1 w.if-rest-eq1.true))
      | else-rest-eq1 w ↦
          w.octets-is ∙ sym (ap (λ t. cond t (flip_bit b o) o) (ne_eqb (c.loop-i.rest % 2) 1 w.if-rest-eq1.false))
    ]

pub loop-i-preserved : goal.loop-i-preserved
loop-i-preserved c =
    let bit = c.args.burst.start % 8 in
    let i = c.loop-i.i in
    let base = c.args.burst.start / 8 * 8 in
    let n : c.args.burst.start % 8 + 16 - c.loop-i.i ≡ suc (c.args.burst.start % 8 + 16 - (c.loop-i.i + 1)) = omega arith in
    let p : c.args.burst.start / 8 * 8 + (c.loop-i.i + 1) ≡ c.args.burst.start / 8 * 8 + c.loop-i.i + 1 = omega arith in
    ap (λ x. flips (bit + 16 - (i + 1)) x (c.loop-i.rest / 2) c.if-rest-eq1.octets) p
    ∙ flips_on (bit + 16 - i) (bit + 16 - (i + 1)) (base + i) c.loop-i.rest c.loop-i.octets c.if-rest-eq1.octets n (turned c)
    ∙ c.loop-i.invariant

pub returns : goal.returns
returns c =
    let os = c.args.octets.now in
    let start = c.args.burst.start in
    let mask = c.args.burst.mask in
    let n : c.args.burst.start % 8 + 16 - c.loop-i.i ≡ 0 = omega arith in
    let g : true ≡ strike_answer (length c.args.octets.now) c.args.burst.start c.args.burst.mask = grind (arith, nat_tests) in
    let l : c.loop-i.octets ≡ strike_leaves c.args.burst.start c.args.burst.mask c.args.octets.now =
    flips_done (start % 8 + 16 - c.loop-i.i) (start / 8 * 8 + c.loop-i.i) c.loop-i.rest c.loop-i.octets n
    ∙ c.loop-i.invariant ∙ ap (λ b. cond b (flips 16 start mask os) os) g in
    let hi : c.args.burst.mask < 2 ^ 16 = search rules in
    record { answers = g; leaves = l; seen = λ w p h t. ap (read_answer w) l ∙ seen os start mask hi w p h (sym g) }
