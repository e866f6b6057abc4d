-- The lines that the console writes for what reading and writing answer.
use Rattle.std.specs.Prelude.{ℕ, List, ◌++◌, Ok, Err, codes, decimal, Result}
use Rattle.frames.specs.declared.kind.Kind.TheVariants.{I, Rr, Rnr, Sarm, Disc, Ua, Dm}
use Rattle.frames.specs.declared.refusal.FrameRefusal.{FrameRefusal}
use Rattle.frames.specs.Refusals.{number_of, word_of}
use Rattle.frames.specs.Parts.{Parts, parts}
use Rattle.console.specs.Hex.{text_of}

-- a frame that has no numbers, by its name
abbrev pub plain_text : List ℕ → List ℕ
plain_text name = codes "frame " ++ (name ++ codes "\n")

-- a frame that tells a status
abbrev pub status_text : List ℕ → ℕ → ℕ → List ℕ
status_text name nr b = codes "frame " ++ (name ++ (codes " nr=" ++ (decimal nr ++ (codes " b=" ++ (decimal b ++ codes "\n")))))

-- an I frame, its information as text
abbrev pub i_text : ℕ → ℕ → ℕ → List ℕ → List ℕ
i_text ns nr b info =
    codes "frame I ns=" ++ (decimal ns ++ (codes " nr=" ++ (decimal nr ++ (codes " b=" ++ (decimal b ++ (codes " info=" ++ (info ++ codes "\n")))))))

-- a frame that was read
abbrev pub frame_text : Parts → List ℕ
frame_text (parts I ns nr b info) = i_text ns nr b (text_of info)
frame_text (parts Rr ns nr b info) = status_text (codes "RR") nr b
frame_text (parts Rnr ns nr b info) = status_text (codes "RNR") nr b
frame_text (parts Sarm ns nr b info) = plain_text (codes "SARM")
frame_text (parts Disc ns nr b info) = plain_text (codes "DISC")
frame_text (parts Ua ns nr b info) = plain_text (codes "UA")
frame_text (parts Dm ns nr b info) = plain_text (codes "DM")

-- octets that were written
abbrev pub octets_text : List ℕ → List ℕ
octets_text os = codes "octets " ++ (text_of os ++ codes "\n")

-- a refusal by its number and its word
abbrev pub numbered_text : ℕ → List ℕ → List ℕ
numbered_text number word = codes "refused " ++ (decimal number ++ (codes " " ++ (word ++ codes "\n")))

abbrev pub refusal_text : FrameRefusal → List ℕ
refusal_text e = numbered_text (number_of e) (word_of e)

-- the answer to a command that reads
abbrev pub read_text : Result Parts FrameRefusal → List ℕ
read_text (Ok p) = frame_text p
read_text (Err e) = refusal_text e

-- the answer to a command that writes
abbrev pub write_text : Result (List ℕ) FrameRefusal → List ℕ
write_text (Ok os) = octets_text os
write_text (Err e) = refusal_text e

-- what is wrong with a line that cannot be understood
abbrev pub error_text : List ℕ → List ℕ
error_text words = codes "error: " ++ (words ++ codes "\n")
