-- SFF: the common header, its checks in document 01's order.
use Rattle.std.specs.Prelude.{List, ℕ}
use Rattle.reading.specs.Number.{be}
use Rattle.reading.specs.Check.{Check, done, need, ◌>>=◌, ◌>>◌}
use Rattle.sff_fields.specs.declared.header.Header.{Header}
use Rattle.sff_fields.specs.Header.{mark_place, version_place, index_offset_place, index_length_place, reads_place, header_length_place, key_length_place, flows_place}
use Rattle.sff_fields.specs.Header.{code_place, front_length, front_check}

-- index offset u64, index length u32, reads u32, header length u16, key length u16, flows u16
unfoldable pub header_of : List ℕ → Header
header_of front =
    record {
      index_offset = be 8 front index_offset_place;
      index_length = be 4 front index_length_place;
      reads = be 4 front reads_place;
      header_length = be 2 front header_length_place;
      key_length = be 2 front key_length_place;
      flows = be 2 front flows_place;
    }

-- 31 bytes present 1; the checks of the fields; header present 1
unfoldable pub header : Check Header
header = do
  front ← need 0 front_length
  front_check (be 4 front mark_place) (be 4 front version_place) (be 1 front code_place) (header_of front)
  _ ← need 0 (header_of front).header_length
  done (header_of front)
