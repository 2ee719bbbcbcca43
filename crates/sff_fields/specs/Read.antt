-- SFF: the fields of a read's header, their check, and where the parts of the read start.
use Rattle.std.specs.Prelude.{ℕ, ◌+◌, ◌*◌}
use Rattle.reading.specs.declared.check.Field.{Field}
use Rattle.reading.specs.declared.check.Rule.TheVariants.{EqualTo}
use Rattle.reading.specs.Check.{Check, unsigned_field, must}
use Rattle.sff_fields.specs.declared.read.ReadHeader.{ReadHeader}
use Rattle.sff_fields.specs.Padding.{padded}

-- how many bytes the fields take
abbrev pub read_front_length : ℕ
read_front_length = 16

-- the header length of a read that starts here
abbrev pub read_header_length : ℕ → ℕ → Field
read_header_length start header_length = unsigned_field 2 start header_length

-- header length not (16 + name length) rounded up to 8: 9
unfoldable pub read_length_check : ℕ → ℕ → ℕ → Check (Unit {0})
read_length_check start header_length name_length = must (read_header_length start header_length) (EqualTo (padded (read_front_length + name_length))) 9

-- the data are 2 x flows + 3 x bases bytes, rounded up to 8
abbrev pub data_length : ℕ → ℕ → ℕ
data_length flows bases = padded (2 * flows + 3 * bases)

-- where a read's data start, and where the read ends, in a file of so many flows
abbrev pub data_start : ReadHeader → ℕ
data_start read = read.start + read.header_length

abbrev pub read_end : ℕ → ReadHeader → ℕ
read_end flows read = data_start read + data_length flows read.bases

-- where the parts of the data start: the flows, the flow steps, the letters, the qualities
abbrev pub flows_start : ReadHeader → ℕ
flows_start read = data_start read

abbrev pub steps_start : ℕ → ReadHeader → ℕ
steps_start flows read = flows_start read + 2 * flows

abbrev pub letters_start : ℕ → ReadHeader → ℕ
letters_start flows read = steps_start flows read + read.bases

abbrev pub qualities_start : ℕ → ReadHeader → ℕ
qualities_start flows read = letters_start flows read + read.bases
