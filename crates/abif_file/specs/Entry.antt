-- ABIF: the raw entries of the directory.
use Rattle.std.specs.Prelude.{ℕ, ◌+◌, ◌-◌, ◌*◌, List}
use Rattle.reading.specs.Choice.{is_number_of}
use Rattle.reading.specs.Number.{be}
use Rattle.reading.specs.Check.{Check, signed_field, field_value, done, provided, ◌>>=◌, ◌>>◌}
use Rattle.abif_file.specs.declared.entry.RawEntry.{RawEntry}
use Rattle.abif.specs.Entry.{entry_of, number, element_type, element_size, element_count, data_size, data_offset}
use Rattle.abif.specs.Directory.{directory}

-- what stands in the fields of the entry at place p; the data handle, which no check looks at, stands behind them
unfoldable pub raw_entry : List ℕ → ℕ → RawEntry
raw_entry bytes p =
    let entry = entry_of bytes p in
    record {
      name = entry.name;
      number = field_value (number entry);
      element_type = field_value (element_type entry);
      element_size = field_value (element_size entry);
      element_count = field_value (element_count entry);
      data_size = field_value (data_size entry);
      data_offset = field_value (data_offset entry);
      data_handle = field_value (signed_field 4 (p + 24) (be 4 bytes (p + 24)));
    }

-- the entry of this number, from one: the header and directory checks, then no such entry 7
unfoldable pub entry_reading : ℕ → Check RawEntry
entry_reading index = do
  d ← directory
  provided (is_number_of index d.count) 7
  done (raw_entry d.up_to (d.place + 28 * (index - 1)))
