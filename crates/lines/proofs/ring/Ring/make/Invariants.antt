use Rattle.std.proofs.Common.{◌≡◌, ℕ, ◌<◌, get_or, drop}
use Rattle.lines.proofs.ring.Ring.make.Given as goal

abbrev pub invariant-loop-i : goal.invariant-loop-i
invariant-loop-i g l = ((k : ℕ) → k < l.i → get_or l.slots k l.blank ≡ l.blank) × (drop l.cap l.slots ≡ drop l.cap l.initial.slots)
