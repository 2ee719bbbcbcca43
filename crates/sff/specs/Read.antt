-- SFF: a read's header, and the checks of where a read ends, in document 01's order.
use Rattle.std.specs.Prelude.{ℕ, ◌+◌, List}
use Rattle.reading.specs.Number.{be}
use Rattle.reading.specs.Check.{Check, done, need, ◌>>=◌, ◌>>◌}
use Rattle.sff_fields.specs.declared.read.ReadHeader.{ReadHeader}
use Rattle.sff_fields.specs.Read.{read_front_length, read_length_check, data_start, read_end}

-- header length u16, name length u16, bases u32, quality clip left, right, adapter clip left, right (u16), of a read that starts at `start`
unfoldable pub read_header_at : ℕ → List ℕ → ℕ → ReadHeader
read_header_at start bytes place =
    record {
      start = start;
      header_length = be 2 bytes place;
      name_length = be 2 bytes (place + 2);
      bases = be 4 bytes (place + 4);
      quality_left = be 2 bytes (place + 8);
      quality_right = be 2 bytes (place + 10);
      adapter_left = be 2 bytes (place + 12);
      adapter_right = be 2 bytes (place + 14);
    }

-- the fields of the read that starts at this place of the file
abbrev pub read_header_of : List ℕ → ℕ → ReadHeader
read_header_of bytes place = read_header_at place bytes place

-- a read that is there: its header, and the bytes up to its end
pub record PresentRead : Type 0 where
  pub fields : ReadHeader
  pub up_to : List ℕ

-- header length 9; header present 1; data present 1
unfoldable pub present_data : ℕ → ReadHeader → Check PresentRead
present_data flows read = do
  read_length_check read.start read.header_length read.name_length
  _ ← need read.start (data_start read)
  up_to ← need (data_start read) (read_end flows read)
  done (record { fields = read; up_to = up_to })

-- the checks of the read that starts at this place: 16 bytes present 1, then those
unfoldable pub present_read : ℕ → ℕ → Check PresentRead
present_read flows place = do
  front ← need place (place + read_front_length)
  present_data flows (read_header_of front place)

-- the same checks; where the read ends
unfoldable pub framing : ℕ → ℕ → Check ℕ
framing flows place = do
  read ← present_read flows place
  done (read_end flows read.fields)
