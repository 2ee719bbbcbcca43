-- SFF: the clips of a read, and its insert.
use Rattle.std.specs.Prelude.{ℕ, ◌+◌, ◌-◌, max, min, leb, eqb}
use Rattle.reading.specs.Choice.{pick}
use Rattle.reading.specs.declared.check.Field.{Field}
use Rattle.reading.specs.declared.check.Rule.TheVariants.{AtMost}
use Rattle.reading.specs.Check.{Check, unsigned_field, must, ◌>>◌}
use Rattle.reading.specs.declared.part.Span.{Span}
use Rattle.sff_fields.specs.declared.read.ReadHeader.{ReadHeader}
use Rattle.sff_fields.specs.Read.{letters_start}

-- the clip at this place of the read's header
abbrev pub clip : ReadHeader → ℕ → ℕ → Field
clip read place value = unsigned_field 2 (read.start + place) value

-- a clip above the bases 11
unfoldable pub clips_check : ReadHeader → Check (Unit {0})
clips_check read = do
  must (clip read 8 read.quality_left) (AtMost read.bases) 11
  must (clip read 10 read.quality_right) (AtMost read.bases) 11
  must (clip read 12 read.adapter_left) (AtMost read.bases) 11
  must (clip read 14 read.adapter_right) (AtMost read.bases) 11

-- first = max(1, both left clips)
abbrev pub first_base : ReadHeader → ℕ
first_base read = max 1 (max read.quality_left read.adapter_left)

-- a right clip of 0 counts as the number of bases
abbrev pub right_clip : ReadHeader → ℕ → ℕ
right_clip read clip = pick (eqb clip 0) read.bases clip

-- last = the smaller right clip
abbrev pub last_base : ReadHeader → ℕ
last_base read = min (right_clip read read.quality_right) (right_clip read read.adapter_right)

-- the insert: the part of the letters from first to last; if first is past last, the empty part at the letters' start
abbrev pub insert_from : ℕ → ℕ → ℕ → Span
insert_from letters first last = pick (leb first last) (record { start = letters + (first - 1); size = last + 1 - first }) (record { start = letters; size = 0 })

abbrev pub insert : ℕ → ReadHeader → Span
insert flows read = insert_from (letters_start flows read) (first_base read) (last_base read)
