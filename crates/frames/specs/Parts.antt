-- A frame by its parts, and which parts the code's frame has.
use Rattle.std.specs.Prelude.{ℕ, Bool, true, false, List, []}
use Rattle.frames.specs.declared.kind.Kind.{Kind}
use Rattle.frames.specs.declared.kind.Kind.TheVariants.{I, Rr, Rnr, Sarm, Disc, Ua, Dm}
use Rattle.frames.specs.declared.frame.Frame.{Frame}
use Rattle.frames.specs.declared.frame.Frame.TheVariants as read
use Rattle.frames.specs.declared.parts.Parts as written

-- what a control octet says: kind, N(S), N(R) and B; a number that the kind lacks is 0
pub data Head : Type 0 where
  head : Kind → ℕ → ℕ → ℕ → Head

-- the same with the information
pub data Parts : Type 0 where
  parts : Kind → ℕ → ℕ → ℕ → List ℕ → Parts

abbrev pub head_of : Parts → Head
head_of (parts k ns nr b info) = head k ns nr b

abbrev pub info_of : Parts → List ℕ
info_of (parts k ns nr b info) = info

-- the parts of a frame that is to be written
abbrev pub given : written.Parts → Parts
given p = parts p.kind p.ns p.nr p.b p.info.now

-- only an I frame has information
abbrev pub informs : Kind → Bool
informs I = true
informs Rr = false
informs Rnr = false
informs Sarm = false
informs Disc = false
informs Ua = false
informs Dm = false

-- the parts of a frame that was read
abbrev pub parts_of : Frame → Parts
parts_of (read.I ns nr b info) = parts I ns nr b info.now
parts_of (read.Rr nr b) = parts Rr 0 nr b []
parts_of (read.Rnr nr b) = parts Rnr 0 nr b []
parts_of read.Sarm = parts Sarm 0 0 0 []
parts_of read.Disc = parts Disc 0 0 0 []
parts_of read.Ua = parts Ua 0 0 0 []
parts_of read.Dm = parts Dm 0 0 0 []
