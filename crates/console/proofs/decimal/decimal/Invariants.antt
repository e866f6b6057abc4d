use Rattle.console.proofs.Digits.{Sofar}
use Rattle.console.proofs.decimal.decimal.Given as goal

abbrev pub invariant-loop-octet : goal.invariant-loop-octet
invariant-loop-octet l = Sofar l.most l.word l.octet-index l.value
