use Rattle.std.proofs.Common.{refl, arith}
use Rattle.std.proofs.lemmas.List.{drop-set-lt}
use Rattle.std.proofs.ByRecursion.{All-push}
use Rattle.lines.proofs.Places.{within, held_pop, free_pop}
use Rattle.lines.proofs.Lanes.{all_same}
use Rattle.lines.proofs.ring.Ring.pop.Goals as goal

pub returns-clause-holds : goal.returns-clause-holds
returns-clause-holds g c =
    held_pop _ _ _ _ (within c.args.self.now) _ _ (omega (arith, c.if-self-eq0.false)) c.slot-p.ensures.is

pub returns-clause-keeps : goal.returns-clause-keeps
returns-clause-keeps g c =
    let p = c.slot-p.ensures in
    record {
      slots = refl;
      rest = drop-set-lt _ _ _ _ p.within;
      blanks = λ h. all_same _ _ _ (free_pop _ _ _ _ (within c.args.self.now) _ _ (omega (arith, c.if-self-eq0.false)) p.is) (All-push _ _ _ h c.blank.ensures);
    }
