-- SFF: the fields of the common header, and their checks in document 01's order.
use Rattle.std.specs.Prelude.{ℕ, ◌+◌, Bool, not, eqb}
use Rattle.reading.specs.Choice.{pick}
use Rattle.reading.specs.declared.check.Field.{Field}
use Rattle.reading.specs.declared.check.Rule.TheVariants.{Exactly, EqualTo, Other}
use Rattle.reading.specs.declared.check.Requirement.TheVariants.{BothOrNeither}
use Rattle.reading.specs.Check.{Check, unsigned_field, must, ◌>>◌}
use Rattle.sff_fields.specs.declared.header.Header.{Header}
use Rattle.sff_fields.specs.Padding.{padded}

-- the places of the fields; they take 31 bytes
abbrev pub mark_place : ℕ
mark_place = 0

abbrev pub version_place : ℕ
version_place = 4

abbrev pub index_offset_place : ℕ
index_offset_place = 8

abbrev pub index_length_place : ℕ
index_length_place = 16

abbrev pub reads_place : ℕ
reads_place = 20

abbrev pub header_length_place : ℕ
header_length_place = 24

abbrev pub key_length_place : ℕ
key_length_place = 26

abbrev pub flows_place : ℕ
flows_place = 28

abbrev pub code_place : ℕ
code_place = 30

abbrev pub front_length : ℕ
front_length = 31

-- the bytes ".sff"; the version and the code that are handled
abbrev pub sff_mark : ℕ
sff_mark = 0x2e736666

abbrev pub sff_version : ℕ
sff_version = 1

abbrev pub format_code : ℕ
format_code = 1

abbrev pub mark_field : ℕ → Field
mark_field mark = unsigned_field 4 mark_place mark

abbrev pub version_field : ℕ → Field
version_field version = unsigned_field 4 version_place version

abbrev pub code_field : ℕ → Field
code_field code = unsigned_field 1 code_place code

abbrev pub header_length : Header → Field
header_length header = unsigned_field 2 header_length_place header.header_length

abbrev pub index_offset : Header → Field
index_offset header = unsigned_field 8 index_offset_place header.index_offset

abbrev pub same_zero : ℕ → ℕ → Bool
same_zero offset length = pick (eqb offset 0) (eqb length 0) (not (eqb length 0))

-- mark 2; version 3
unfoldable pub mark_check : ℕ → ℕ → Check (Unit {0})
mark_check mark version = do
  must (mark_field mark) (Exactly sff_mark) 2
  must (version_field version) (Exactly sff_version) 3

-- code not 1: 4; header length not (31 + flows + key) rounded up to 8: 4
unfoldable pub length_check : ℕ → Header → Check (Unit {0})
length_check code header = do
  must (code_field code) (Exactly format_code) 4
  must (header_length header) (EqualTo (padded (front_length + header.flows + header.key_length))) 4

-- just one of index offset and length zero: 4
unfoldable pub index_check : Header → Check (Unit {0})
index_check header = must (index_offset header) (Other BothOrNeither (same_zero header.index_offset header.index_length)) 4

-- the checks of the header's fields
unfoldable pub front_check : ℕ → ℕ → ℕ → Header → Check (Unit {0})
front_check mark version code header = do
  mark_check mark version
  length_check code header
  index_check header

-- how many bytes the index takes: its length rounded up to 8
abbrev pub index_size : Header → ℕ
index_size header = padded header.index_length
