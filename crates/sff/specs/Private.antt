-- What private functions ask of their callers. No public call's contract cites this.
use Rattle.std.specs.Prelude.{ℕ, ◌≡◌, List}
use Rattle.reading.specs.Check.{ok, answer}
use Rattle.reading.specs.Bulk.{records}
use Rattle.sff_fields.specs.declared.header.Header.{Header}
use Rattle.sff_fields.specs.Parts.{record_width, read_numbers}
use Rattle.sff.specs.declared.walk.Boundary.{Boundary}
use Rattle.sff.specs.Walk.{Passage, walk}
use Rattle.sff.specs.Reads.{reads_at}

-- a walk of so many reads from a boundary on passes
abbrev pub Passes : Header → List ℕ → ℕ → Boundary → Type 0
Passes header bytes reads boundary = (w : Passage) × (answer (walk header reads 0 boundary) bytes ≡ ok w)

-- the records of the reads that a walk has passed
abbrev pub recorded : Header → List ℕ → Passage → List ℕ
recorded header bytes passage = records record_width read_numbers (reads_at header.flows bytes passage.starts)
