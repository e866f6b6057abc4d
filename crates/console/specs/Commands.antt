-- What a line asks for: its words, one after the other.
use Rattle.std.specs.Prelude.{ℕ, cond, List, Some, None, codes, Option}
use Rattle.std.specs.Borrow.{Bor}
use Rattle.std.specs.List.{find}
use Rattle.std.specs.Option.{option_map}
use Rattle.std.specs.Str.{bytes_eq}
use Rattle.frames.specs.declared.way.Way.{Way}
use Rattle.frames.specs.declared.way.Way.TheVariants.{One, Two}
use Rattle.frames.specs.declared.kind.Kind.{Kind}
use Rattle.frames.specs.declared.kind.Kind.TheVariants.{I, Rr, Rnr, Sarm, Disc, Ua, Dm}
use Rattle.link.specs.declared.end.End.{End}
use Rattle.link.specs.declared.end.End.TheVariants.{Primary, Secondary}

-- what a word names in a table
abbrev pub named : {A : Type 0} → List ℕ → List (Bor (List ℕ) × A) → Option A
named w table = option_map (λ entry. entry.1) (find (λ entry. bytes_eq w entry.0.now) table)

abbrev pub way_answer : List ℕ → Option Way
way_answer w = cond (bytes_eq w (codes "1")) (Some One) (cond (bytes_eq w (codes "2")) (Some Two) None)

abbrev pub kind_answer : List ℕ → Option Kind
kind_answer w =
    cond (bytes_eq w (codes "I")) (Some I)
    (cond (bytes_eq w (codes "RR")) (Some Rr)
    (cond (bytes_eq w (codes "RNR")) (Some Rnr)
    (cond (bytes_eq w (codes "SARM")) (Some Sarm)
    (cond (bytes_eq w (codes "DISC")) (Some Disc)
    (cond (bytes_eq w (codes "UA")) (Some Ua)
    (cond (bytes_eq w (codes "DM")) (Some Dm) None))))))

abbrev pub end_answer : List ℕ → Option End
end_answer w =
    cond (bytes_eq w (codes "primary")) (Some Primary)
    (cond (bytes_eq w (codes "secondary")) (Some Secondary) None)
