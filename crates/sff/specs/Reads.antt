-- SFF: the reads from number `first` on, many at once.
use Rattle.std.specs.Prelude.{ℕ, ◌+◌, ◌-◌, List, [], ◌∷◌, drop}
use Rattle.reading.specs.Choice.{is_number_of}
use Rattle.reading.specs.Check.{Check, Answer, answer, done, need, provided, at, ◌>>=◌, ◌>>◌}
use Rattle.reading.specs.Bulk.{left_from, fitting, one_fits}
use Rattle.sff_fields.specs.declared.header.Header.{Header}
use Rattle.sff_fields.specs.declared.parts.Read.{Read}
use Rattle.sff_fields.specs.Parts.{record_width}
use Rattle.sff.specs.Header.{header}
use Rattle.sff.specs.Walk.{first_boundary, walk}
use Rattle.sff.specs.Lookup.{read_from}

-- what is answered of the reads that start at these places, in bytes that hold them and in a file of so many flows
unfoldable pub reads_at : ℕ → List ℕ → List ℕ → List (Answer Read)
reads_at flows up_to [] = []
reads_at flows up_to (place ∷ places) = answer (read_from flows place) up_to ∷ reads_at flows up_to places

-- so many reads from read i on, counted from 0: the walk as far as the last of them, then what is answered of each
unfoldable pub reads_from : Header → ℕ → ℕ → Check (List (Answer Read))
reads_from header reads i = do
  passage ← at 0 (walk header (i + reads) 0 (first_boundary header))
  up_to ← need 0 passage.behind.position
  done (reads_at header.flows up_to (drop i passage.starts))

-- no such read 7, not one fits 13, then as many as are left and as fit
unfoldable pub reads_in : Header → ℕ → ℕ → Check (List (Answer Read))
reads_in header first room = do
  provided (is_number_of first header.reads) 7
  one_fits record_width room
  reads_from header (fitting record_width (left_from header.reads first) room) (first - 1)

unfoldable pub reads_reading : ℕ → ℕ → Check (List (Answer Read))
reads_reading first room = do
  fields ← header
  reads_in fields first room
