-- A packed record: the frame's length, its age in two octets, low one first, the frame's octets, and zeros behind; 72 octets.
use Rattle.std.specs.Prelude.{◌≡◌, ℕ, ◌+◌, ◌*◌, List, ◌++◌, length, take, drop, Ok, Err, Result, slice_index}
use Rattle.std.specs.List.{AllByRecursion}
use Rattle.frames.specs.declared.way.Way.{Way}
use Rattle.frames.specs.declared.refusal.FrameRefusal.{FrameRefusal}
use Rattle.frames.specs.Parts.{Parts}
use Rattle.frames.specs.Bits.{strike_leaves}
use Rattle.frames.specs.Reader.{read_answer}
use Rattle.lines.specs.Entries.{Entry, struck, frame}

abbrev pub age_in : List ℕ → ℕ
age_in r = slice_index r 1 + slice_index r 2 * 256

abbrev pub frame_in : List ℕ → List ℕ
frame_in r = take (slice_index r 0) (drop 3 r)

-- a record whose frame a burst has struck: its length, its age and the octets behind the frame stay
abbrev pub struck_octets : ℕ → ℕ → List ℕ → List ℕ
struck_octets start mask r = take 3 r ++ (strike_leaves start mask (frame_in r) ++ drop (slice_index r 0) (drop 3 r))

-- the octets behind the frame are zero
abbrev pub Neat : List ℕ → Type 0
Neat r = AllByRecursion (λ o. o ≡ 0) (drop (slice_index r 0) (drop 3 r))

-- a whole record: 72 octets, those behind the frame zero
pub record Whole (r : List ℕ) : Type 0 where
  pub size : length r ≡ 72
  pub zeros : Neat r

-- the entry is the frame that its octets are read as; there is no mark for struck: octets that are not read are struck
abbrev pub entry_read : ℕ → Result Parts FrameRefusal → Entry
entry_read a (Ok p) = frame a p
entry_read a (Err e) = struck a

unfoldable pub packed_entry : Way → List ℕ → Entry
packed_entry w r = entry_read (age_in r) (read_answer w (frame_in r))
