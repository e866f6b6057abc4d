use Rattle.std.proofs.Common.{replicate, arith}
use Rattle.std.proofs.lemmas.Result.{err_from_is_err_and}
use Rattle.frames.specs.Parts.{given}
use Rattle.lines.proofs.Packs.{zeros, pack_ok, pack_err}
use Rattle.lines.proofs.packed.calls.PackedStored.pack.Goals as goal

pub returns-in_err-n : goal.returns-in_err-n
returns-in_err-n c =
    let p = err_from_is_err_and c.from_residual.result c.from_residual.ensures.1 in
    rw (p.1, p.2) (pack_err c.args.way (given c.args.frame) c.in_err-n.field-0.0 68 (omega arith) c.in_err-n.ensures.answers)

pub invariant_of-result : goal.invariant_of-result
invariant_of-result c =
    let a = c.in_ok-n.ensures in
    (pack_ok c.args.way (given c.args.frame) (replicate 68 0) c.write.new.out c.in_ok-n.n a.answers a.leaves a.reads_back (zeros 68) (omega (arith, c.write.auto.out))).1

pub returns : goal.returns
returns c =
    let a = c.in_ok-n.ensures in
    (pack_ok c.args.way (given c.args.frame) (replicate 68 0) c.write.new.out c.in_ok-n.n a.answers a.leaves a.reads_back (zeros 68) (omega (arith, c.write.auto.out))).0
