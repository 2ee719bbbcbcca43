-- SFF: a read, by its number.
use Rattle.std.specs.Prelude.{ℕ, List}
use Rattle.reading.specs.Check.{Check, done, ◌>>=◌, ◌>>◌}
use Rattle.contents.specs.Steps.{steps_check}
use Rattle.sff_fields.specs.declared.header.Header.{Header}
use Rattle.sff_fields.specs.declared.read.ReadHeader.{ReadHeader}
use Rattle.sff_fields.specs.declared.parts.Read.{Read}
use Rattle.sff_fields.specs.Read.{steps_start}
use Rattle.sff_fields.specs.Clips.{clips_check}
use Rattle.sff_fields.specs.Parts.{read_of}
use Rattle.sff.specs.Header.{header}
use Rattle.sff.specs.Read.{present_read}
use Rattle.sff.specs.Walk.{skip_index, before_read}

-- the contents of a read, in bytes up to its end: a clip above the bases 11; the flow steps 11
unfoldable pub read_contents : ℕ → ReadHeader → List ℕ → Check Read
read_contents flows read up_to = do
  clips_check read
  steps_check flows up_to (steps_start flows read) read.bases
  done (read_of flows read)

-- the read that starts at this place: its checks, then its contents
unfoldable pub read_from : ℕ → ℕ → Check Read
read_from flows place = do
  read ← present_read flows place
  read_contents flows read.fields read.up_to

-- a read of a file with this header: no such read 7, the checks as far as that read, then its contents
unfoldable pub read_in : Header → ℕ → Check Read
read_in header number = do
  boundary ← before_read header number
  here ← skip_index header boundary
  read_from header.flows here.position

unfoldable pub read_reading : ℕ → Check Read
read_reading number = do
  fields ← header
  read_in fields number
