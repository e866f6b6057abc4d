-- What a block holds, and the parts of a frame that owns its information.
use Rattle.std.specs.Prelude.{ℕ, List, length, take, replicate, nat_lt, Ok, Err, Result}
use Rattle.std.proofs.Common.{lit≤}
use Rattle.frames.specs.declared.block.Block.{Block}
use Rattle.frames.specs.declared.frame_buf.FrameBuf.{FrameBuf}
use Rattle.frames.specs.declared.refusal.FrameRefusal.{FrameRefusal}
use Rattle.frames.specs.declared.refusal.FrameRefusal.TheVariants.{Long}
use Rattle.frames.specs.Refusals.{refuse}
use Rattle.frames.specs.Parts.{Parts, parts, info_of}

-- the octets of a block
abbrev pub octets_in : Block → List ℕ
octets_in k = take k.len k.octets

-- the block of no octets
abbrev pub empty_block : Block
empty_block = record { octets = replicate 64 0; len = 0; fits = lit≤ tt }

-- the parts of a frame that owns its information
abbrev pub parts_in : FrameBuf → Parts
parts_in f = parts f.kind f.ns f.nr f.b (octets_in f.block)

-- what a frame that is to own its information answers: its parts, or long where there are more than 64 octets
abbrev pub owns : Parts → Result Parts FrameRefusal
owns p = refuse (nat_lt 64 (length (info_of p))) Long (Ok p)

-- the answer of the code by its parts
abbrev pub owned : Result FrameBuf FrameRefusal → Result Parts FrameRefusal
owned (Ok f) = Ok (parts_in f)
owned (Err e) = Err e
