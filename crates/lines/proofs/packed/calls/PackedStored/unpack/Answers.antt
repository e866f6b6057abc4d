use Rattle.std.proofs.Common.{◌+◌, ◌-◌, get_or, refl, ap, ◌∙◌, arith}
use Rattle.std.specs.Option.{option_map}
use Rattle.frames.specs.Parts.{parts_of}
use Rattle.frames.specs.Blocks.{parts_in, owns}
use Rattle.lines.proofs.Packs.{sized, too_long, unread, is_read, own_told, told_struck, told_frame}
use Rattle.lines.proofs.packed.calls.PackedStored.unpack.Goals as goal

pub returns-then-n-gt68 : goal.returns-then-n-gt68
returns-then-n-gt68 c =
    rw (← c.self.view_is) (told_struck _ _ (too_long c.args.way c.self.inside.octets c.self.invariant.size c.if-n-gt68.true))

pub returns-in_default : goal.returns-in_default
returns-in_default c =
    let r = c.self.inside.octets in
    rw (← c.self.view_is) (told_struck _ _ (unread c.args.way r (3 + get_or r 0 0 - 3) (omega arith) _ c.in_default.ensures.answers))

pub returns : goal.returns
returns c =
    let r = c.self.inside.octets in
    let p = parts_of c.in-Ok.frame in
    let a = c.in-Ok.ensures in
    let z = sized c.args.way p _ (a.writes_back p refl) in
    rw (← c.self.view_is) (told_frame _ _ p _ (is_read c.args.way r (3 + get_or r 0 0 - 3) (omega arith) p a.answers)
    (ap (option_map parts_in) c.ok.ensures.value ∙ own_told _ _ z.short (c.try_from.ensures ∙ ap owns c.from.ensures)))
