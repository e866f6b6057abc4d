use Rattle.std.proofs.Common.{◌∷◌, ◌∙◌, rules}
use Rattle.frames.proofs.Writing.{summed, lain, two_octets}
use Rattle.frames.proofs.writer.lay.Goals as goal

pub returns : goal.returns
returns c =
    let i = c.args.info.now in
    let o = c.args.out.now in
    let e = c.copy_from_slice.ensures.after in
    let s =
    summed c.args.control i o c.copy_from_slice.new.self c.check_sequence-sequence.result c.requires e
    c.check_sequence-sequence.ensures.answers in
    lain c.args.control i o c.copy_from_slice.new.self c.copy_from_slice-2.new.self c.requires e
    (c.copy_from_slice-2.ensures.after ∙ c.to_le_bytes.ensures ∙ two_octets _ (1 ∷ c.args.control ∷ i) s (search rules))
