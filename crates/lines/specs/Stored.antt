-- What the stores of a line's two ways mean together, an entry's age, and one entry's turn in a tick.
use Rattle.std.specs.Prelude.{◌≡◌, ℕ, zero, suc, Bool, true, cond, ◌&&◌, List, [], ◌∷◌, ◌++◌, is_ok, Some, None, Ok, Err, Option, Result, ◌==◌, nat_le}
use Rattle.frames.specs.declared.way.Way.{Way}
use Rattle.frames.specs.declared.refusal.FrameRefusal.{FrameRefusal}
use Rattle.frames.specs.Parts.{Parts}
use Rattle.frames.specs.Writer.{admit_answer}
use Rattle.lines.specs.Entries.{Entry, struck, frame, Lists}
use Rattle.lines.specs.Line.{dead, older}

-- stores with room for m entries on way 1 and n on way 2 make a line of lifetime d
abbrev pub fit : ℕ → ℕ → ℕ → Bool
fit m n d = m == n && nat_le m 64 && nat_le 1 d && nat_le d 1000

-- the lists of two stores, way 2 with room for n; where they make no line it is dead, so that any fields mean some line
unfoldable pub lists_by : ℕ → Lists → Lists
lists_by n l = cond (fit l.capacity n l.lifetime) l dead

-- the age of an entry, and the entry at another age
abbrev pub age : Entry → ℕ
age (struck a) = a
age (frame a p) = a

abbrev pub aged : ℕ → Entry → Entry
aged n (struck a) = struck n
aged n (frame a p) = frame n p

-- the oldest entry goes to the end one tick older, or leaves where it is then older than d
abbrev pub turned : ℕ → List Entry → List Entry
turned d [] = []
turned d (e ∷ es) = es ++ older d (e ∷ [])

-- ---- an entry in some form

-- the entry by the frame that was taken out of its form
abbrev pub entry_told : ℕ → Option Parts → Entry
entry_told a (Some p) = frame a p
entry_told a None = struck a

-- what putting a frame into a form answers: the form of the frame at age 0, or what writing refuses
abbrev pub Packs : {A : Type 0} → (A → Entry) → Way → Parts → Result A FrameRefusal → Type 0
Packs entry w p (Ok x) = (is_ok (admit_answer w p) ≡ true) × (entry x ≡ frame 0 p)
Packs entry w p (Err e) = admit_answer w p ≡ Err e

-- a burst on what stands at a place; all else stays
abbrev pub struck_at : {A : Type 0} → (A → A) → ℕ → List A → List A
struck_at burst place [] = []
struck_at burst zero (x ∷ xs) = burst x ∷ xs
struck_at burst (suc place) (x ∷ xs) = x ∷ struck_at burst place xs
