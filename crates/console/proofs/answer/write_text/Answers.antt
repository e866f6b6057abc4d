use Rattle.std.proofs.Common.{length, take, replicate, sym, ap, ◌∙◌}
use Rattle.std.proofs.lemmas.Result.{IfOk-weaker}
use Rattle.frames.specs.Parts.{given}
use Rattle.frames.specs.Writer.{frame_octets, fitted}
use Rattle.console.specs.Answers.{octets_text, write_text}
use Rattle.console.proofs.Room.{fits, written, room, refused}
use Rattle.console.proofs.answer.write_text.Goals as goal

pub slice_bounds-octets_text-end : goal.slice_bounds-octets_text-end
slice_bounds-octets_text-end c =
    let f = fitted (frame_octets c.args.way (given c.args.frame)) 68 in
    room f (replicate 68 0) c.in-Ok.len c.in-Ok.ensures.answers ∙ ap (λ l. length (take c.in-Ok.len l)) (sym c.in-Ok.ensures.leaves)

pub returns-in-Ok : goal.returns-in-Ok
returns-in-Ok c =
    let p = given c.args.frame in
    let f = frame_octets c.args.way p in
    let n = c.in-Ok.len in
    let after = c.in-Ok.ensures in
    let e = written (fitted f 68) f (replicate 68 0) n (fits c.args.way p) after.answers in
    IfOk-weaker c.octets_text.result _ _
    (λ t h.
    h ∙ ap (λ l. octets_text (take n l)) after.leaves
    ∙ sym (ap write_text e))
    c.octets_text.ensures

pub returns-in-Err : goal.returns-in-Err
returns-in-Err c =
    let p = given c.args.frame in
    let f = frame_octets c.args.way p in
    let e = refused (fitted f 68) f c.in-Err.refusal (fits c.args.way p) c.in-Err.ensures.answers in
    IfOk-weaker c.refusal_text.result _ _ (λ t h. h ∙ sym (ap write_text e)) c.refusal_text.ensures
