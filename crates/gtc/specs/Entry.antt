-- GTC: an entry of the table of contents, and the one entry with an id.
use Rattle.std.specs.Prelude.{ℕ, ◌+◌, List, Bool, eqb}
use Rattle.reading.specs.Number.{le}
use Rattle.reading.specs.declared.check.Field.{Field}
use Rattle.reading.specs.Check.{Check, signed_field, unsigned_field, done, ◌>>=◌}
use Rattle.reading.specs.Entries.{one_with}
use Rattle.gtc.specs.declared.entry.Entry.{Entry}
use Rattle.gtc.specs.Table.{place_of_entry}

-- the entry at this place of the table; the signed offset as its unsigned number
unfoldable pub entry_of : List ℕ → ℕ → Entry
entry_of table place = record { place = place; id = le 2 table place; offset = le 4 table (place + 2) }

-- its fields
module _ (entry : Entry) where
  abbrev pub id_field : Field
  id_field = unsigned_field 2 entry.place entry.id

  abbrev pub offset_field : Field
  offset_field = signed_field 4 (entry.place + 2) entry.offset

-- entry i of the table has this id
unfoldable pub has_id : List ℕ → ℕ → ℕ → Bool
has_id table id i = eqb (le 2 table (place_of_entry i)) id

-- the entry with this id in a table of so many entries: no entry 7, two or more 8
unfoldable pub entry_with : List ℕ → ℕ → ℕ → Check Entry
entry_with table count id = do
  i ← one_with (has_id table id) count
  done (entry_of table (place_of_entry i))
