-- A part of lent bytes, document 01's term for a stretch of them: where it starts (a block of memory and an offset in it), and its bytes.
use Rattle.std.specs.Prelude.{ℕ, ◌+◌, List, length, take, drop, leb}
use Rattle.std.specs.Borrow.{Bor}
pub use Rattle.reading.specs.declared.part.Span.{Span}
use Rattle.reading.specs.Choice.{pick}
use Rattle.reading.specs.Check.{Answer, ok, refused}

-- the bytes of s that stand there
abbrev pub bytes_at : List ℕ → Span → List ℕ
bytes_at s q = take q.size (drop q.start s)

pub record Part : Type 0 where
  pub place : ℕ × ℕ
  pub bytes : List ℕ

-- what a reference to bytes shows of itself
abbrev pub shown : Bor (List ℕ) → Part
shown r = record { place = r.ref_ptr; bytes = r.now }

-- the n bytes of p from its byte a on
abbrev pub part_of : Part → ℕ → ℕ → Part
part_of p a n = record { place = (p.place.0, a + p.place.1); bytes = bytes_at p.bytes (record { start = a; size = n }) }

-- the empty part at the start
abbrev pub no_part : Part → Part
no_part p = part_of p 0 0

-- the n bytes of p from its byte a on, or the empty part at the start where they are not all there
abbrev pub part_within : Part → ℕ → ℕ → Part
part_within p a n = pick (leb (a + n) (length p.bytes)) (part_of p a n) (no_part p)

-- the first n bytes of p
abbrev pub cut_to : ℕ → Part → Part
cut_to n p = record { place = p.place; bytes = take n p.bytes }

-- the part that a call hands back: the one its answer names; refused, the empty part at the start
abbrev pub handed_back : Part → Answer Span → Part
handed_back p (ok q) = part_of p q.start q.size
handed_back p (refused n e) = no_part p
