-- SFF: a read that the writer is given: its checks, and its bytes.
use Rattle.std.specs.Prelude.{ℕ, ◌+◌, ◌*◌, List, ◌++◌, leb, eqb, length, replicate}
use Rattle.std.specs.Borrow.{Bor}
use Rattle.reading.specs.Check.{Check, provided, ◌>>◌}
use Rattle.sff_fields.specs.declared.read.ReadHeader.{ReadHeader}
use Rattle.sff_fields.specs.Padding.{padding, padded}
use Rattle.sff_fields.specs.Read.{read_front_length}
use Rattle.writing.specs.Put.{digits, words}
use Rattle.sff_write.specs.declared.read.Clips.{Clips}
use Rattle.sff_write.specs.declared.read.GivenRead as code

-- a read that the writer is given
pub record GivenRead : Type 0 where
  pub name : List ℕ
  pub flows : List ℕ
  pub steps : List ℕ
  pub letters : List ℕ
  pub qualities : List ℕ
  pub clips : Clips

abbrev pub given_read : List ℕ → List ℕ → List ℕ → List ℕ → List ℕ → Clips → GivenRead
given_read name flows steps letters qualities clips =
    record { name = name; flows = flows; steps = steps; letters = letters; qualities = qualities; clips = clips }

-- the read that is lent by these references
abbrev pub lent_read : Bor (List ℕ) → Bor (List ℕ) → Bor (List ℕ) → Bor (List ℕ) → Bor (List ℕ) → Clips → GivenRead
lent_read name flows steps letters qualities clips = given_read name.now flows.now steps.now letters.now qualities.now clips

-- the read that the code hands on
abbrev pub read_of : code.GivenRead → GivenRead
read_of read = lent_read read.name read.flows read.steps read.letters read.qualities read.clips

-- the clips fit their fields
unfoldable pub clips_fit : Clips → Check (Unit {0})
clips_fit clips = do
  provided (leb clips.quality_left 65535) 9
  provided (leb clips.quality_right 65535) 9
  provided (leb clips.adapter_left 65535) 9
  provided (leb clips.adapter_right 65535) 9

-- the length of a read's header
abbrev pub read_header_size : ℕ → ℕ
read_header_size name = padded (read_front_length + name)

-- the header length of a read with a name of so many bytes fits its field
unfoldable pub name_fits : ℕ → Check (Unit {0})
name_fits name = provided (leb (read_header_size name) 65535) 9

-- lengths that do not fit their fields, or disagree, in a file of so many flows 9
unfoldable pub lengths_check : ℕ → GivenRead → Check (Unit {0})
lengths_check flows read = do
  name_fits (length read.name)
  provided (leb flows 65535) 9
  provided (eqb (length read.flows) flows) 9
  provided (eqb (length read.steps) (length read.letters)) 9
  provided (eqb (length read.qualities) (length read.letters)) 9
  provided (leb (length read.letters) 0xffffffff) 9
  clips_fit read.clips

-- the header fields of a read that starts here, with a name of so many bytes and so many bases
unfoldable pub header_with : ℕ → ℕ → ℕ → Clips → ReadHeader
header_with start name bases clips =
    record {
      start = start;
      header_length = read_header_size name;
      name_length = name;
      bases = bases;
      quality_left = clips.quality_left;
      quality_right = clips.quality_right;
      adapter_left = clips.adapter_left;
      adapter_right = clips.adapter_right;
    }

abbrev pub header_for : ℕ → GivenRead → ReadHeader
header_for start read = header_with start (length read.name) (length read.letters) read.clips

-- a read's header length, name length and bases; its clips
unfoldable pub length_bytes : ReadHeader → List ℕ
length_bytes header = digits 2 header.header_length ++ (digits 2 header.name_length ++ digits 4 header.bases)

unfoldable pub clip_bytes : ReadHeader → List ℕ
clip_bytes header =
    digits 2 header.quality_left ++ (digits 2 header.quality_right
    ++ (digits 2 header.adapter_left ++ digits 2 header.adapter_right))

abbrev pub field_bytes : ReadHeader → List ℕ
field_bytes header = length_bytes header ++ clip_bytes header

-- the zeros behind the name, and behind the data
abbrev pub name_zeros : GivenRead → List ℕ
name_zeros read = replicate (padding (read_front_length + length read.name)) 0

abbrev pub data_zeros : GivenRead → List ℕ
data_zeros read = replicate (padding (2 * length read.flows + 3 * length read.letters)) 0

-- the read with these header fields: fields, name, padding; flows, flow steps, letters, qualities, padding
unfoldable pub read_bytes : ReadHeader → GivenRead → List ℕ
read_bytes header read =
    field_bytes header ++ (read.name ++ (name_zeros read
    ++ (words read.flows (length read.flows) 0 ++ (read.steps ++ (read.letters ++ (read.qualities ++ data_zeros read))))))
