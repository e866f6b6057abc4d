-- What writing answers, and what the memory then holds.
use Rattle.std.specs.Prelude.{ℕ, Bool, List, ◌∷◌, ◌++◌, length, drop, Some, None, Ok, Err, Option, Result, nat_lt}
use Rattle.frames.specs.declared.way.Way.{Way}
use Rattle.frames.specs.declared.refusal.FrameRefusal.{FrameRefusal}
use Rattle.frames.specs.declared.refusal.FrameRefusal.TheVariants.{Long, Control, Stray, NoSpace}
use Rattle.frames.specs.Refusals.{refuse}
use Rattle.frames.specs.Parts.{head, Parts, parts, info_of}
use Rattle.frames.specs.Fcs.{check_octets}
use Rattle.frames.specs.Control.{control_answer}
use Rattle.frames.specs.Reader.{stray}

-- a frame's octets: the address, the control octet, the information, then the check octets of all these
abbrev pub octets_of : ℕ → List ℕ → List ℕ
octets_of c info = (0x01 ∷ c ∷ info) ++ check_octets (0x01 ∷ c ∷ info)

-- the control octet, unless information stands outside an I frame
abbrev pub admit_by : Option ℕ → Bool → Result ℕ FrameRefusal
admit_by None astray = Err Control
admit_by (Some c) astray = refuse astray Stray (Ok c)

-- the control octet of a frame that can be written: long, control and stray are looked for in that order
abbrev pub admit_answer : Way → Parts → Result ℕ FrameRefusal
admit_answer w (parts k ns nr b info) =
    refuse (nat_lt 64 (length info)) Long (admit_by (control_answer w (head k ns nr b)) (stray k info))

abbrev pub octets_by : Result ℕ FrameRefusal → List ℕ → Result (List ℕ) FrameRefusal
octets_by (Err e) info = Err e
octets_by (Ok c) info = Ok (octets_of c info)

-- the octets of a frame, or why it has none
abbrev pub frame_octets : Way → Parts → Result (List ℕ) FrameRefusal
frame_octets w p = octets_by (admit_answer w p) (info_of p)

-- and where there is no room for them, no space
abbrev pub fitted : Result (List ℕ) FrameRefusal → ℕ → Result (List ℕ) FrameRefusal
fitted (Err e) room = Err e
fitted (Ok os) room = refuse (nat_lt room (length os)) NoSpace (Ok os)

abbrev pub counted : Result (List ℕ) FrameRefusal → Result ℕ FrameRefusal
counted (Err e) = Err e
counted (Ok os) = Ok (length os)

abbrev pub laid : Result (List ℕ) FrameRefusal → List ℕ → List ℕ
laid (Err e) out = out
laid (Ok os) out = os ++ drop (length os) out

-- writing answers how many octets the frame has
abbrev pub write_answer : Way → Parts → ℕ → Result ℕ FrameRefusal
write_answer w p room = counted (fitted (frame_octets w p) room)

-- the frame's octets stand at the front, and the octets behind them stay; a refusal leaves all as it was
abbrev pub write_leaves : Way → Parts → List ℕ → List ℕ
write_leaves w p out = laid (fitted (frame_octets w p) (length out)) out
