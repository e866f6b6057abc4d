-- What a line comes to: nothing, and that only where it asks for nothing.
use Rattle.std.specs.Prelude.{Bool, true, false, Some, None, Ok, Err, Option, Result}
use Rattle.console.specs.declared.answer.Turn.{Turn}
use Rattle.console.specs.declared.answer.Turn.TheVariants.{Silent, Answer, Error, Stand, Other}

-- a line was parsed to nothing
abbrev pub parsed_nothing : {A B : Type 0} → Result (Option A) B → Bool
parsed_nothing (Ok None) = true
parsed_nothing (Ok (Some c)) = false
parsed_nothing (Err e) = false

-- nothing is written
abbrev pub silent : Turn → Bool
silent Silent = true
silent (Answer t) = false
silent (Error t) = false
silent (Stand s) = false
silent Other = false

-- a text is written
abbrev pub written : Turn → Bool
written Silent = false
written (Answer t) = true
written (Error t) = true
written (Stand s) = false
written Other = false
