use Rattle.std.proofs.Common.{sym, subst, rules}
use Rattle.link.specs.Promise.{Law}
use Rattle.link.specs.DrainPromise.{DrainLaw}
use Rattle.link.proofs.Law.{law}
use Rattle.link.proofs.DrainLaws.{drain_law}
use Rattle.link.proofs.link.Link.make.Goals as goal

pub returns-clause-law : goal.returns-clause-law
returns-clause-law g c = subst Law (sym (search rules)) (law (g.L.Line.meaning c.args.line) c.args.limit)

pub returns-clause-drains : goal.returns-clause-drains
returns-clause-drains g c = subst DrainLaw (sym (search rules)) (drain_law (g.L.Line.meaning c.args.line) c.args.limit)
