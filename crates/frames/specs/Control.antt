-- The control octet: which kinds a way carries, which numbers a kind has, and the octet for them.
use Rattle.std.specs.Prelude.{ℕ, ◌+◌, ◌*◌, ◌/◌, ◌%◌, Bool, true, false, cond, ◌&&◌, Some, None, Option, ◌==◌, nat_le}
use Rattle.frames.specs.declared.way.Way.{Way}
use Rattle.frames.specs.declared.way.Way.TheVariants.{One, Two}
use Rattle.frames.specs.declared.kind.Kind.{Kind}
use Rattle.frames.specs.declared.kind.Kind.TheVariants.{I, Rr, Rnr, Sarm, Disc, Ua, Dm}
use Rattle.frames.specs.Parts.{Head, head}

-- I, RR and RNR go both ways, SARM and DISC on way 1, UA and DM on way 2
abbrev pub carries : Way → Kind → Bool
carries w I = true
carries w Rr = true
carries w Rnr = true
carries One Sarm = true
carries One Disc = true
carries One Ua = false
carries One Dm = false
carries Two Sarm = false
carries Two Disc = false
carries Two Ua = true
carries Two Dm = true

-- N(S) and N(R) are at most 7 and B at most 1; a number that the kind lacks is 0
abbrev pub numbered : Kind → ℕ → ℕ → ℕ → Bool
numbered I ns nr b = nat_le ns 7 && nat_le nr 7 && nat_le b 1
numbered Rr ns nr b = ns == 0 && nat_le nr 7 && nat_le b 1
numbered Rnr ns nr b = ns == 0 && nat_le nr 7 && nat_le b 1
numbered Sarm ns nr b = ns == 0 && nr == 0 && b == 0
numbered Disc ns nr b = ns == 0 && nr == 0 && b == 0
numbered Ua ns nr b = ns == 0 && nr == 0 && b == 0
numbered Dm ns nr b = ns == 0 && nr == 0 && b == 0

-- the frame table
abbrev pub control : Kind → ℕ → ℕ → ℕ → ℕ
control I ns nr b = nr * 32 + b * 16 + ns * 2
control Rr ns nr b = nr * 32 + b * 16 + 1
control Rnr ns nr b = nr * 32 + b * 16 + 5
control Sarm ns nr b = 0x1F
control Disc ns nr b = 0x53
control Ua ns nr b = 0x73
control Dm ns nr b = 0x1F

-- the control octet, where the way carries the kind and the kind has the numbers
abbrev pub control_answer : Way → Head → Option ℕ
control_answer w (head k ns nr b) = cond (carries w k && numbered k ns nr b) (Some (control k ns nr b)) None

-- a kind without numbers, where the way carries it
abbrev pub plain : Way → Kind → Option Head
plain w k = cond (carries w k) (Some (head k 0 0 0)) None

-- on way 1 the octet 0x1F is SARM, on way 2 it is DM
abbrev pub mode_kind : Way → Kind
mode_kind One = Sarm
mode_kind Two = Dm

-- what a control octet says on its way, if the frame table has it
abbrev pub decode : Way → ℕ → Option Head
decode w c =
    cond (c % 2 == 0) (Some (head I (c / 2 % 8) (c / 32) (c / 16 % 2)))
    (cond (c % 16 == 1) (Some (head Rr 0 (c / 32) (c / 16 % 2)))
    (cond (c % 16 == 5) (Some (head Rnr 0 (c / 32) (c / 16 % 2)))
    (cond (c == 0x1F) (plain w (mode_kind w))
    (cond (c == 0x53) (plain w Disc)
    (cond (c == 0x73) (plain w Ua) None)))))
