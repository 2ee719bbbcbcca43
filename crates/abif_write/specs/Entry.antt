-- ABIF: the bytes of a directory entry and of the header.
use Rattle.std.specs.Prelude.{ℕ, ◌*◌, List, ◌++◌, leb, replicate}
use Rattle.reading.specs.Choice.{pick}
use Rattle.reading.specs.Number.{be, bits}
use Rattle.writing.specs.Put.{digits}
use Rattle.abif.specs.declared.entry.Entry.{Entry}
use Rattle.abif.specs.Entry.{type_of}
use Rattle.abif.specs.Directory.{abif_mark, tdir_name}
use Rattle.abif_write.specs.declared.item.Item.{Item}
use Rattle.abif_write.specs.Item.{bytes_of, written_size}

-- name, number, element type and element size
unfoldable pub tag_bytes : Entry → List ℕ
tag_bytes entry = digits 4 entry.name ++ (digits 4 entry.number ++ (digits 2 entry.element_type ++ digits 2 entry.element_size))

-- element count, data size, data offset and the data handle, which is zero
unfoldable pub data_bytes : Entry → List ℕ
data_bytes entry = digits 4 entry.element_count ++ (digits 4 entry.data_size ++ (digits 4 entry.data_offset ++ digits 4 0))

-- an entry's 28 bytes
unfoldable pub entry_bytes : Entry → List ℕ
entry_bytes entry = tag_bytes entry ++ data_bytes entry

-- the header's entry: n entries at this place
unfoldable pub tdir : ℕ → ℕ → Entry
tdir n place =
    record {
      place = 6;
      name = tdir_name;
      number = 1;
      element_type = 1023;
      element_size = 28;
      element_count = n;
      data_size = 28 * n;
      data_offset = place;
    }

-- the mark "ABIF", version 101, the header's entry and the 94 reserved bytes
unfoldable pub header_bytes : ℕ → ℕ → List ℕ
header_bytes n place = digits 4 abif_mark ++ (digits 2 101 ++ (entry_bytes (tdir n place) ++ replicate 94 0))

-- data of 4 bytes or fewer stand in the offset field, padded with zeros; others stand at place x
abbrev pub offset_field : List ℕ → Item → ℕ → ℕ
offset_field buffer item x = pick (leb item.size 4) (be 4 (bytes_of buffer item) 0) x

-- the entry, at this place, of an item whose data, if over 4 bytes, stand at place x
unfoldable pub entry_for : List ℕ → Item → ℕ → ℕ → Entry
entry_for buffer item place x =
    record {
      place = place;
      name = item.name;
      number = bits 4 item.number;
      element_type = item.element_type;
      element_size = written_size (type_of item.element_type);
      element_count = item.count;
      data_size = item.size;
      data_offset = offset_field buffer item x;
    }
