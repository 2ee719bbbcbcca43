-- SFF: the common header as it is written.
use Rattle.std.specs.Prelude.{ℕ, ◌+◌, List, ◌++◌, length, replicate}
use Rattle.sff_fields.specs.Padding.{padding, padded}
use Rattle.sff_fields.specs.Header.{sff_mark, sff_version, format_code, front_length}
use Rattle.writing.specs.Put.{digits}

-- the mark, the version, no index (offset and length 0), and the number of reads
unfoldable pub front_bytes : ℕ → List ℕ
front_bytes reads = digits 4 sff_mark ++ (digits 4 sff_version ++ (digits 8 0 ++ (digits 4 0 ++ digits 4 reads)))

-- the header length, the key length, the flows, and the format code
unfoldable pub length_bytes : ℕ → ℕ → ℕ → List ℕ
length_bytes size key flows = digits 2 size ++ (digits 2 key ++ (digits 2 flows ++ digits 1 format_code))

-- the length of the header for these flow letters and key letters
abbrev pub header_size : List ℕ → List ℕ → ℕ
header_size letters key = padded (front_length + length letters + length key)

-- the header, with zeros to a multiple of 8
unfoldable pub header_bytes : ℕ → List ℕ → List ℕ → List ℕ
header_bytes reads letters key =
    front_bytes reads ++ (length_bytes (header_size letters key) (length key) (length letters)
    ++ (letters ++ (key ++ replicate (padding (front_length + length letters + length key)) 0)))
