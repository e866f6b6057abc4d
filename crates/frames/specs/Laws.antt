-- Reading and writing match both ways, and a burst is always seen.
use Rattle.std.specs.Prelude.{◌≡◌, ℕ, Bool, true, List, take, Ok, Err, Result}
use Rattle.frames.specs.declared.way.Way.{Way}
use Rattle.frames.specs.declared.refusal.FrameRefusal.{FrameRefusal}
use Rattle.frames.specs.declared.refusal.FrameRefusal.TheVariants.{Check}
use Rattle.frames.specs.Parts.{Parts}
use Rattle.frames.specs.Reader.{read_answer}
use Rattle.frames.specs.Writer.{frame_octets}

-- the octets that writing counted are read as the frame that was written
abbrev pub ReadsBack : Way → Parts → Result ℕ FrameRefusal → List ℕ → Type 0
ReadsBack w p answer out = (n : ℕ) → answer ≡ Ok n → read_answer w (take n out) ≡ Ok p

-- octets that are read are the octets of the frame that they are read as
abbrev pub WritesBack : Way → List ℕ → Result Parts FrameRefusal → Type 0
WritesBack w os answer = (p : Parts) → answer ≡ Ok p → frame_octets w p ≡ Ok os

-- octets that were read on a way are refused there with check once a burst has struck them
abbrev pub Seen : List ℕ → Bool → List ℕ → Type 0
Seen before answer after = (w : Way) (p : Parts) → read_answer w before ≡ Ok p → answer ≡ true → read_answer w after ≡ Err Check
