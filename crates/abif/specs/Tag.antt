-- ABIF: tags and their order.
use Rattle.std.specs.Prelude.{Bool, ltb, eqb}
use Rattle.std.specs.Int.Signed.{lt_z}
use Rattle.reading.specs.Choice.{pick}
use Rattle.reading.specs.Number.{signed}
use Rattle.abif.specs.declared.entry.Entry.{Entry}
use Rattle.abif.specs.declared.tag.Tag.{Tag}

-- the tag of an entry
abbrev pub tag_of : Entry → Tag
tag_of entry = record { name = entry.name; number = signed 4 entry.number }

-- tag a stands below tag b: name by unsigned bytes, then signed number
abbrev pub tag_below : Tag → Tag → Bool
tag_below a b = pick (eqb a.name b.name) (lt_z a.number b.number) (ltb a.name b.name)
