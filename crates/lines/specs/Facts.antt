-- Worked out from the definitions: which bursts a frame without information allows, and how long an entry stands at D = 2.
use Rattle.std.specs.Prelude.{◌≡◌, ℕ, [], ◌∷◌, Ok, Err}
use Rattle.frames.specs.declared.way.Way.TheVariants.{One}
use Rattle.frames.specs.declared.kind.Kind.{Kind}
use Rattle.frames.specs.Parts.{Parts, parts}
use Rattle.lines.specs.declared.refusal.LineRefusal.TheVariants.{OffFrame}
use Rattle.lines.specs.Entries.{frame, Lists, on}
use Rattle.lines.specs.Line.{bits, strike_answer, tick_leaves}

-- a line of K = 8 and D = 2 with one frame, just put, on way 1
abbrev pub one_frame : Parts → Lists
one_frame p = record { one = frame 0 p ∷ []; two = []; capacity = 8; lifetime = 2 }

pub record Worked : Type 0 where
  -- a frame without information has 32 bits
  pub bare : (k : Kind) (ns nr b : ℕ) → bits (parts k ns nr b []) ≡ 32
  -- so a burst that starts at bit 16 is granted, and one that starts at bit 17 is off the frame
  pub last : (k : Kind) (ns nr b : ℕ) → strike_answer (one_frame (parts k ns nr b [])) One 0 16 1 ≡ Ok tt
  pub off : (k : Kind) (ns nr b : ℕ) → strike_answer (one_frame (parts k ns nr b [])) One 0 17 1 ≡ Err OffFrame
  -- after two ticks the entry still stands, and the third removes it
  pub stands : (p : Parts) → on One (tick_leaves (tick_leaves (one_frame p))) ≡ frame 2 p ∷ []
  pub leaves : (p : Parts) → on One (tick_leaves (tick_leaves (tick_leaves (one_frame p)))) ≡ []
