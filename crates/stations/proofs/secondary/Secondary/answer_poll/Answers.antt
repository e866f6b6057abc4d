use Rattle.std.proofs.Common.{◌≡◌, suc, ap, ◌∙◌, ap₂, arith}
use Rattle.frames.specs.declared.way.Way.TheVariants.{Two}
use Rattle.lines.specs.Entries.{Lists, with_way}
use Rattle.stations.specs.Counts.{all_of}
use Rattle.stations.specs.Puts.{put, status, again, again_tries, counts}
use Rattle.stations.specs.Views.{station_of}
use Rattle.stations.proofs.Resends.{put_grows, again_grows, counts_more}
use Rattle.stations.proofs.secondary.Secondary.answer_poll.Goals as goal

pub returns-clause-answers : goal.returns-clause-answers
returns-clause-answers g c =
    let l = g.L.Line.meaning c.args.line.now in
    let k = g.L.Line.meaning c.deliver.new.line in
    let x = station_of c.args.self.now.station in
    let es = put l.capacity l.two (status x) in
    let f : k ≡ with_way Two es l =
    c.deliver.ensures.leaves ∙ ap (λ p. with_way Two (put l.capacity l.two p) l) c.status.ensures in
    let a : c.deliver.result ≡ counts 1 l.two es =
    c.deliver.ensures.answers ∙ ap (λ p. counts 1 l.two (put l.capacity l.two p)) c.status.ensures in
    let b : c.again.result ≡ counts (again_tries x) es (again l.capacity x es) =
    c.again.ensures.answers ∙ ap (λ (q : Lists). counts (again_tries x) q.two (again q.capacity x q.two)) f in
    c.add.ensures ∙ ap₂ all_of a b
    ∙ counts_more 1 (again_tries x) (suc (again_tries x)) l.two es (again l.capacity x es) (put_grows l.capacity l.two (status x))
    (again_grows l.capacity x es) (omega arith)
