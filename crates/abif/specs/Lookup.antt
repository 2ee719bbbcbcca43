-- ABIF: lookup of a tag.
use Rattle.std.specs.Prelude.{ℕ, ◌+◌, ◌*◌, List, leb}
use Rattle.reading.specs.Choice.{pick}
use Rattle.reading.specs.Check.{Check, done, ◌>>=◌}
use Rattle.reading.specs.Entries.{one_with}
use Rattle.reading.specs.declared.item.ItemData.{ItemData}
use Rattle.abif.specs.declared.entry.Entry.{Entry}
use Rattle.abif.specs.Entry.{entry_of, has_tag, entry_check}
use Rattle.abif.specs.Directory.{directory}

-- data of 4 bytes or fewer are the first bytes of the entry's own offset field
unfoldable pub data_of : Entry → ItemData
data_of entry =
    record {
      code = entry.element_type;
      count = entry.element_count;
      start = pick (leb entry.data_size 4) (entry.place + 20) entry.data_offset;
      size = entry.data_size;
    }

-- an entry's checks, then its data
unfoldable pub item_of : Entry → Check ItemData
item_of entry = do
  _ ← entry_check entry
  done (data_of entry)

-- lookup in the directory at this place: no entry 7, two or more 8, then that entry's checks
unfoldable pub lookup_in : List ℕ → ℕ → ℕ → ℕ → ℕ → Check ItemData
lookup_in bytes place count name number = do
  i ← one_with (has_tag bytes place name number) count
  item_of (entry_of bytes (place + 28 * i))

-- lookup of a name and number: header and directory checks, then those of its entry
unfoldable pub looking_up : ℕ → ℕ → Check ItemData
looking_up name number = do
  d ← directory
  lookup_in d.up_to d.place d.count name number
