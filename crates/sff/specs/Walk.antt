-- SFF: the walk over the reads, which judging and every call for a read share.
use Rattle.std.specs.Prelude.{ℕ, zero, suc, ◌+◌, ◌-◌, List, [], ◌∷◌, true, false, eqb}
use Rattle.reading.specs.Choice.{pick, is_number_of}
use Rattle.reading.specs.Check.{Check, done, need, provided, at, ◌>>=◌, ◌>>◌}
use Rattle.sff_fields.specs.declared.header.Header.{Header}
use Rattle.sff_fields.specs.Header.{index_size}
use Rattle.sff.specs.declared.walk.Boundary.{Boundary}
use Rattle.sff.specs.declared.walk.Placed.{Placed}
use Rattle.sff.specs.Read.{framing}

-- the boundary before the first read
abbrev pub first_boundary : Header → Boundary
first_boundary header = record { position = header.header_length; met = false }

-- the boundary behind an index that starts at this one
abbrev pub behind_index : Header → Boundary → Boundary
behind_index header boundary = record { position = boundary.position + index_size header; met = true }

-- 1 unless all of the index is present
abbrev pub past_index : Header → Boundary → Check Boundary
past_index header boundary = do
  _ ← need boundary.position (behind_index header boundary).position
  done (behind_index header boundary)

-- at every read boundary a position equal to the index offset skips the index, its length rounded up to 8
unfoldable pub skip_index : Header → Boundary → Check Boundary
skip_index header boundary = pick (eqb boundary.position header.index_offset) (past_index header boundary) (done boundary)

-- the read behind a boundary, which is read i, counted from 0 and reported from one; the index is reported at 0
unfoldable pub next_read : Header → ℕ → Boundary → Check Placed
next_read header i boundary = do
  here ← skip_index header boundary
  end ← at (i + 1) (framing header.flows here.position)
  done (record { start = here.position; behind = record { position = end; met = here.met } })

-- the places of reads, and the boundary behind the last one
pub record Passage : Type 0 where
  pub starts : List ℕ
  pub behind : Boundary

-- so many reads from read i on, from this boundary on
unfoldable pub walk : Header → ℕ → ℕ → Boundary → Check Passage
walk header zero i boundary = done (record { starts = []; behind = boundary })
walk header (suc reads) i boundary = do
  read ← next_read header i boundary
  rest ← walk header reads (i + 1) read.behind
  done (record { starts = read.start ∷ rest.starts; behind = rest.behind })

-- the same walk; the boundary behind it
unfoldable pub walk_past : Header → ℕ → ℕ → Boundary → Check Boundary
walk_past header reads i boundary = do
  passage ← walk header reads i boundary
  done passage.behind

-- the boundary before a read, from one: no such read 7, then the reads before it, with all refusals at 0
unfoldable pub before_read : Header → ℕ → Check Boundary
before_read header number = do
  provided (is_number_of number header.reads) 7
  at 0 (walk_past header (number - 1) 0 (first_boundary header))
