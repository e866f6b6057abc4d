-- What reading answers.
use Rattle.std.specs.Prelude.{ℕ, ◌-◌, Bool, cond, not, ◌&&◌, List, [], length, take, drop, Some, None, Ok, Err, Option, Result, ◌==◌, nat_lt, slice_index}
use Rattle.frames.specs.declared.way.Way.{Way}
use Rattle.frames.specs.declared.kind.Kind.{Kind}
use Rattle.frames.specs.declared.frame.Frame.{Frame}
use Rattle.frames.specs.declared.refusal.FrameRefusal.{FrameRefusal}
use Rattle.frames.specs.declared.refusal.FrameRefusal.TheVariants.{Short, Long, Check, Address, Control, Stray}
use Rattle.frames.specs.Refusals.{refuse}
use Rattle.frames.specs.Parts.{Head, head, Parts, parts, informs, parts_of}
use Rattle.frames.specs.Fcs.{checks}
use Rattle.frames.specs.Control.{decode}

-- address, control octet, information, then two check octets
abbrev pub address : List ℕ → ℕ
address os = slice_index os 0

abbrev pub control_octet : List ℕ → ℕ
control_octet os = slice_index os 1

abbrev pub information : List ℕ → List ℕ
information os = take (length os - 4) (drop 2 os)

-- information stands outside an I frame
abbrev pub stray : Kind → List ℕ → Bool
stray k info = not (informs k) && not (length info == 0)

-- a control octet that says nothing is refused with control, information outside an I frame with stray
abbrev pub said : Option Head → List ℕ → Result Parts FrameRefusal
said None info = Err Control
said (Some (head k ns nr b)) info = refuse (stray k info) Stray (Ok (parts k ns nr b (cond (informs k) info [])))

abbrev pub said_answer : Way → ℕ → List ℕ → Result Parts FrameRefusal
said_answer w c info = said (decode w c) info

-- what octets say on their way: short, long, check, address, control and stray are looked for in that order
abbrev pub read_answer : Way → List ℕ → Result Parts FrameRefusal
read_answer w os =
    refuse (nat_lt (length os) 4) Short
    (refuse (nat_lt 68 (length os)) Long
    (refuse (not (checks os)) Check
    (refuse (not (address os == 0x01)) Address
    (said_answer w (control_octet os) (information os)))))

-- the answer of the code by its parts
abbrev pub meant : Result Frame FrameRefusal → Result Parts FrameRefusal
meant (Ok f) = Ok (parts_of f)
meant (Err e) = Err e
