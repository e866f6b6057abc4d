use Rattle.std.proofs.Common.{refl, arith}
use Rattle.std.proofs.lemmas.List.{drop-set-lt}
use Rattle.std.proofs.ByRecursion.{All-drop}
use Rattle.lines.proofs.Places.{within, held_push, free_push}
use Rattle.lines.proofs.Lanes.{all_same}
use Rattle.lines.proofs.ring.Ring.push.Goals as goal

pub returns-clause-holds : goal.returns-clause-holds
returns-clause-holds g c =
    held_push _ _ _ _ (within c.args.self.now) _ c.args.e (omega (arith, c.if-len-self.false)) c.slot-p.ensures.is

pub returns-clause-keeps : goal.returns-clause-keeps
returns-clause-keeps g c =
    let p = c.slot-p.ensures in
    record {
      slots = refl;
      rest = drop-set-lt _ _ _ _ p.within;
      blanks = λ h. all_same _ _ _ (free_push _ _ _ _ (within c.args.self.now) _ c.args.e (omega (arith, c.if-len-self.false)) p.is) (All-drop _ 1 _ h);
    }
