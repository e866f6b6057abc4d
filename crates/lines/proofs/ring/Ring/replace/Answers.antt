use Rattle.std.proofs.Common.{refl}
use Rattle.std.proofs.lemmas.List.{drop-set-lt}
use Rattle.lines.proofs.Places.{within, held_put, free_put}
use Rattle.lines.proofs.Lanes.{all_same}
use Rattle.lines.proofs.ring.Ring.replace.Goals as goal

pub returns-then-i-self : goal.returns-then-i-self
returns-then-i-self g c =
    let w = within c.args.self.now in
    let p = c.slot-p.ensures in
    record {
      holds = held_put _ _ _ _ w c.args.i _ c.args.new c.if-i-self.true p.is;
      keeps = record {
        slots = refl;
        rest = drop-set-lt _ _ _ _ p.within;
        blanks = all_same _ _ _ (free_put _ _ _ _ w c.args.i _ c.args.new c.if-i-self.true p.is);
      };
    }
