-- A record of the table line, and the entry that it means.
use Rattle.std.specs.Prelude.{Some, None}
use Rattle.std.specs.Option.{option_map}
use Rattle.frames.specs.declared.kind.Kind.TheVariants.{Ua}
use Rattle.frames.specs.Blocks.{empty_block, parts_in}
use Rattle.lines.specs.Entries.{Entry}
use Rattle.lines.specs.Stored.{entry_told}
use Rattle.lines.specs.declared.record.Record.{Record}

-- what a slot that holds nothing has: an unstruck UA of age 0
abbrev pub blank_record : Record
blank_record = record { age = 0; frame = Some (record { kind = Ua; ns = 0; nr = 0; b = 0; block = empty_block }) }

-- a record without a frame means a struck entry
abbrev pub entry_of : Record → Entry
entry_of r = entry_told r.age (option_map parts_in r.frame)

-- a record that a burst has struck
abbrev pub struck_record : Record → Record
struck_record r = record { age = r.age; frame = None }
