-- SFF: judging.
use Rattle.std.specs.Prelude.{ℕ, Bool, true, eqb}
use Rattle.reading.specs.Choice.{pick}
use Rattle.reading.specs.declared.check.Rule.TheVariants.{Other}
use Rattle.reading.specs.declared.check.Requirement.TheVariants.{IndexMet}
use Rattle.reading.specs.Check.{Check, done, must, ◌>>=◌, ◌>>◌}
use Rattle.sff_fields.specs.declared.header.Header.{Header}
use Rattle.sff_fields.specs.Header.{index_offset}
use Rattle.sff.specs.declared.walk.Boundary.{Boundary}
use Rattle.sff.specs.Header.{header}
use Rattle.sff.specs.Walk.{first_boundary, skip_index, walk}

-- there is no index, or it has been met
abbrev pub index_met : Header → Boundary → Bool
index_met header boundary = pick (eqb header.index_offset 0) true boundary.met

-- after the last read: the index may stand here too; with the index never met 4
unfoldable pub ending : Header → Boundary → Check ℕ
ending header boundary = do
  final ← skip_index header boundary
  must (index_offset header) (Other IndexMet (index_met header final)) 4
  done final.position

-- judging the reads of a file with this header
unfoldable pub judging_reads : Header → Check ℕ
judging_reads header = do
  passage ← walk header header.reads 0 (first_boundary header)
  ending header passage.behind

-- Judging answers the extent. Whole and extent are document 01's terms: a file is whole where judging refuses nothing, and its extent is the final position.
unfoldable pub judging : Check ℕ
judging = do
  fields ← header
  judging_reads fields

-- the extent in what judging answers
abbrev pub extent_of : ℕ → ℕ
extent_of extent = extent
