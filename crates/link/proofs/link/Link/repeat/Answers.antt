use Rattle.std.proofs.Common.{◌+◌, ◌≤◌, sym, ap, ◌∙◌, subst, ap₂, arith}
use Rattle.link.specs.Drain.{frames_of, counted_call, total}
use Rattle.link.specs.History.{step}
use Rattle.link.specs.Plays.{meant}
use Rattle.link.specs.Views.{model}
use Rattle.link.proofs.Walks.{run_again, counted_again, total_again}
use Rattle.link.proofs.link.Link.repeat.Goals as goal

pub loop-i-preserved : goal.loop-i-preserved
loop-i-preserved g c =
    let m = g.L.Line.meaning in
    let from = model m c.args.self.now in
    let k = meant c.args.call in
    let i = c.loop-i._i in
    let f = c.obey-answer.ensures.frames in
    let h = c.loop-i.invariant in
    record {
      leads = c.obey-answer.ensures.leaves ∙ ap (λ l. step l k) h.leads ∙ run_again from k i;
      counts =
          c.note.ensures ∙ ap₂ (λ x d. counted_call k x d) (f ∙ ap (λ l. frames_of k l) h.leads) h.counts
          ∙ counted_again from k i c.args.done.now;
      few =
          let t = total_again k _ c.loop-i.done c.obey-answer.ensures.few in
          let s : total c.note.new.self ≤ total c.loop-i.done + 17 = subst (λ d. total d ≤ total c.loop-i.done + 17) (sym c.note.ensures) t in
          omega (arith, h.few);
      keeps = c.obey-answer.ensures.keeps ∙ h.keeps;
    }
