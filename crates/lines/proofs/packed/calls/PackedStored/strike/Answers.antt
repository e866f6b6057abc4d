use Rattle.std.proofs.Common.{◌+◌, ◌-◌, true, false, leb, get_or, Some, sym, refl, ap, ◌∙◌, arith}
use Rattle.std.proofs.lemmas.Bool.{eq-eqb}
use Rattle.frames.specs.Parts.{parts_of}
use Rattle.lines.specs.Line.{bits, burst_by, strike_by}
use Rattle.lines.proofs.Packs.{too_long, unread, is_read, struck_by}
use Rattle.lines.proofs.packed.calls.PackedStored.strike.Goals as goal

pub returns-then-n-gt68-clause-answers : goal.returns-then-n-gt68-clause-answers
returns-then-n-gt68-clause-answers c =
    rw (← c.self.view_is) (sym (ap (λ x. strike_by (Some x) c.args.burst.start c.args.burst.mask) (too_long c.args.way c.self.inside.octets c.self.invariant.size c.if-n-gt68.true)))

pub returns-in_default-clause-answers : goal.returns-in_default-clause-answers
returns-in_default-clause-answers c =
    let r = c.self.inside.octets in
    rw (← c.self.view_is) (sym (ap (λ x. strike_by (Some x) c.args.burst.start c.args.burst.mask) (unread c.args.way r (3 + get_or r 0 0 - 3) (omega arith) _ c.in_default.ensures.answers)))

pub returns-then-burst-eq0-clause-answers : goal.returns-then-burst-eq0-clause-answers
returns-then-burst-eq0-clause-answers c =
    let r = c.self.inside.octets in
    let p = parts_of c.in-Ok.field-0 in
    let f = is_read c.args.way r (3 + get_or r 0 0 - 3) (omega arith) p c.in-Ok.ensures.answers in
    rw (← c.self.view_is) (sym (ap (λ x. strike_by (Some x) c.args.burst.start c.args.burst.mask) f ∙ ap (λ m. burst_by m (leb (c.args.burst.start + 16) (bits p))) (eq-eqb c.args.burst.mask 0 c.if-burst-eq0.true)))

pub invariant_of-self : goal.invariant_of-self
invariant_of-self c =
    let r = c.self.inside.octets in
    let a = c.in-Ok.ensures in
    let b = c.if-not-strike.ensures in
    (struck_by c.args.way r c.strike.new.octets (3 + get_or r 0 0 - 3) (parts_of c.in-Ok.field-0) c.args.burst.start c.args.burst.mask false (omega arith)
    (omega (arith, c.if-n-gt68.false)) c.self.invariant a.answers (a.writes_back (parts_of c.in-Ok.field-0) refl) (omega (arith, c.if-burst-eq0.false)) b.answers b.leaves b.seen c.strike.auto.octets).whole

pub invariant_of-self-2 : goal.invariant_of-self-2
invariant_of-self-2 c =
    let r = c.self.inside.octets in
    let a = c.in-Ok.ensures in
    let b = c.if-not-strike.ensures in
    (struck_by c.args.way r c.strike.new.octets (3 + get_or r 0 0 - 3) (parts_of c.in-Ok.field-0) c.args.burst.start c.args.burst.mask true (omega arith)
    (omega (arith, c.if-n-gt68.false)) c.self.invariant a.answers (a.writes_back (parts_of c.in-Ok.field-0) refl) (omega (arith, c.if-burst-eq0.false)) b.answers b.leaves b.seen c.strike.auto.octets).whole

pub returns-then-not-strike : goal.returns-then-not-strike
returns-then-not-strike c =
    let r = c.self.inside.octets in
    let a = c.in-Ok.ensures in
    let b = c.if-not-strike.ensures in
    let h = struck_by c.args.way r c.strike.new.octets (3 + get_or r 0 0 - 3) (parts_of c.in-Ok.field-0) c.args.burst.start c.args.burst.mask false (omega arith)
    (omega (arith, c.if-n-gt68.false)) c.self.invariant a.answers (a.writes_back (parts_of c.in-Ok.field-0) refl) (omega (arith, c.if-burst-eq0.false)) b.answers b.leaves b.seen c.strike.auto.octets in
    record { answers = rw (← c.self.view_is) h.answers; leaves = rw (← c.self.view_is) h.leaves; flips = rw (← c.self.view_is) h.flips }

pub returns : goal.returns
returns c =
    let r = c.self.inside.octets in
    let a = c.in-Ok.ensures in
    let b = c.if-not-strike.ensures in
    let h = struck_by c.args.way r c.strike.new.octets (3 + get_or r 0 0 - 3) (parts_of c.in-Ok.field-0) c.args.burst.start c.args.burst.mask true (omega arith)
    (omega (arith, c.if-n-gt68.false)) c.self.invariant a.answers (a.writes_back (parts_of c.in-Ok.field-0) refl) (omega (arith, c.if-burst-eq0.false)) b.answers b.leaves b.seen c.strike.auto.octets in
    record { answers = rw (← c.self.view_is) h.answers; leaves = rw (← c.self.view_is) h.leaves; flips = rw (← c.self.view_is) h.flips }
