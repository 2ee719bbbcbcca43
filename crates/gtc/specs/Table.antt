-- GTC: the header and the table of contents, in document 01's order.
use Rattle.std.specs.Prelude.{ℕ, ◌+◌, ◌*◌, List}
use Rattle.reading.specs.Number.{le}
use Rattle.reading.specs.declared.check.Field.{Field}
use Rattle.reading.specs.declared.check.Rule.TheVariants.{Exactly, NotNegative, AtMost}
use Rattle.reading.specs.Check.{Check, signed_field, unsigned_field, done, must, need, ◌>>=◌, ◌>>◌}

-- the header: the mark, the version, the number of entries
abbrev pub header_size : ℕ
header_size = 8

abbrev pub mark_field : ℕ → Field
mark_field mark = unsigned_field 3 0 mark

abbrev pub version_field : ℕ → Field
version_field version = unsigned_field 1 3 version

abbrev pub entry_count_field : ℕ → Field
entry_count_field count = signed_field 4 4 count

-- "gtc", lowest byte first
abbrev pub gtc_mark : ℕ
gtc_mark = 0x637467

abbrev pub gtc_version : ℕ
gtc_version = 5

-- "gtc" 2, version byte not 5: 3
unfoldable pub mark_check : ℕ → ℕ → Check (Unit {0})
mark_check mark version = do
  must (mark_field mark) (Exactly gtc_mark) 2
  must (version_field version) (Exactly gtc_version) 3

abbrev pub most_entries : ℕ
most_entries = 999

-- the entry count is negative 4, over 999 5
unfoldable pub count_check : ℕ → Check (Unit {0})
count_check count = do
  must (entry_count_field count) NotNegative 4
  must (entry_count_field count) (AtMost most_entries) 5

-- an entry is a u16 id and an i32 offset
abbrev pub entry_size : ℕ
entry_size = 6

-- where entry i, counted from 0, stands
abbrev pub place_of_entry : ℕ → ℕ
place_of_entry i = header_size + entry_size * i

-- the end of a table of so many entries
abbrev pub table_end : ℕ → ℕ
table_end count = place_of_entry count

-- a table of contents: its number of entries, and the bytes up to its end
pub record Table : Type 0 where
  pub count : ℕ
  pub up_to : List ℕ

-- the table's checks
unfoldable pub table : Check Table
table = do
  header ← need 0 header_size
  mark_check (le 3 header 0) (le 1 header 3)
  count_check (le 4 header 4)
  up_to ← need header_size (table_end (le 4 header 4))
  done (record { count = le 4 header 4; up_to = up_to })
