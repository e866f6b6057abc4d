use Rattle.std.proofs.Common.{sym, arith}
use Rattle.console.proofs.Digits.{refused_large}
use Rattle.console.proofs.decimal.decimal.Goals as goal

pub returns-then-value-most-clause-answers : goal.returns-then-value-most-clause-answers
returns-then-value-most-clause-answers c =
    sym (refused_large c.args.most c.args.word.now c.loop-octet.octet-index c.loop-octet.value (omega arith) (omega arith) c.loop-octet.invariant)
