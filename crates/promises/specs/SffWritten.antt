-- What the SFF writer has written reads back as what was given: every read, none lost, none added, none changed.
use Rattle.std.specs.Prelude.{ℕ, zero, suc, ◌+◌, ◌*◌, ◌<◌, ◌≡◌, List, [], length, take, drop, get_or}
use Rattle.reading.specs.Number.{be}
use Rattle.reading.specs.Check.{ok, refused, answer}
use Rattle.reading.specs.Part.{bytes_at}
use Rattle.sff_fields.specs.declared.header.Header.{Header}
use Rattle.sff_fields.specs.declared.parts.Read.{Read}
use Rattle.sff_fields.specs.declared.parts.ReadPart.TheVariants.{Name, Steps, Letters, Qualities, Insert}
use Rattle.sff.specs.Header.{header}
use Rattle.sff.specs.Judge.{judging}
use Rattle.sff_fields.specs.Clips.{first_base, last_base, insert_from}
use Rattle.sff.specs.Lookup.{read_reading}
use Rattle.sff_fields.specs.Parts.{span_of}
use Rattle.writing.specs.Put.{put}
use Rattle.sff_write.specs.declared.write.Writer.{Writer}
use Rattle.sff_write.specs.Read.{GivenRead, header_for}
use Rattle.sff_write.specs.Write.{Piece, beginning, adding, finishing}

-- The writer's calls one behind the other, in one output that nothing else changes: a header for n reads, then the first m of the reads g. After them the
-- state is w, and the output holds o. A refused call leaves both as they were, so it is no step.
pub data Session (n : ℕ) (letters key : List ℕ) (g : ℕ → GivenRead) : ℕ → Writer → List ℕ → Type 0 where
  begun :
      (o : List ℕ) (x : Piece)
      → answer (beginning n letters key (length o)) [] ≡ ok x
      → Session n letters key g zero x.state (put o 0 x.bytes)
  added :
      (m : ℕ) (w : Writer) (o : List ℕ) (x : Piece)
      → Session n letters key g m w o
      → answer (adding w (g m) (length o)) [] ≡ ok x
      → Session n letters key g (suc m) x.state (put o w.at x.bytes)

-- the letters from the first to the last base that the clips leave
abbrev pub insert_given : GivenRead → List ℕ
insert_given r = bytes_at r.letters (insert_from 0 (first_base (header_for 0 r)) (last_base (header_for 0 r)))

-- read k of the file s is r
pub record ReadIs (s : List ℕ) (k : ℕ) (r : GivenRead) : Type 0 where
  pub read : Read
  pub found : answer (read_reading k) s ≡ ok read
  pub name : bytes_at s (span_of Name read) ≡ r.name
  pub flows : read.flows ≡ length r.flows
  pub flow : (i : ℕ) → i < length r.flows → be 2 s (read.flows_start + 2 * i) ≡ get_or r.flows i 0
  pub bases : read.bases ≡ length r.letters
  pub steps : bytes_at s (span_of Steps read) ≡ r.steps
  pub letters : bytes_at s (span_of Letters read) ≡ r.letters
  pub qualities : bytes_at s (span_of Qualities read) ≡ r.qualities
  pub quality_left : read.quality_left ≡ r.clips.quality_left
  pub quality_right : read.quality_right ≡ r.clips.quality_right
  pub adapter_left : read.adapter_left ≡ r.clips.adapter_left
  pub adapter_right : read.adapter_right ≡ r.clips.adapter_right
  pub insert : bytes_at s (span_of Insert read) ≡ insert_given r

-- the file s is the n reads g under these flow letters and key letters
pub record HoldsReads (n : ℕ) (letters key : List ℕ) (g : ℕ → GivenRead) (s : List ℕ) : Type 0 where
  -- judged whole, and its extent is its length
  pub whole : answer judging s ≡ ok (length s)
  pub fields : Header
  pub has_header : answer header s ≡ ok fields
  pub reads : fields.reads ≡ n
  pub flows : fields.flows ≡ length letters
  pub key_length : fields.key_length ≡ length key
  pub flow_letters : take (length letters) (drop 31 s) ≡ letters
  pub key_letters : take (length key) (drop (31 + length letters) s) ≡ key
  -- read k is read k as given, from one
  pub each : (k : ℕ) → k < n → ReadIs s (k + 1) (g k)
  -- there is no other
  pub first : answer (read_reading 0) s ≡ refused 7 0
  pub last : (k : ℕ) → n < k → answer (read_reading k) s ≡ refused 7 0

-- the lent numbers fit their types: the stated number of reads 32 bits, a flow 16
pub record ReadsFitTypes (n : ℕ) (g : ℕ → GivenRead) : Type 0 where
  pub reads : n < 4294967296
  pub flows : (k i : ℕ) → get_or (g k).flows i 0 < 65536

-- a session that finishing accepts with the length x has written the reads g, as many as were stated, into the first x bytes of the output, which has them all
abbrev pub SffReadsBack : Type 0
SffReadsBack =
    (n : ℕ) (letters key : List ℕ) (g : ℕ → GivenRead) (m : ℕ) (w : Writer) (o : List ℕ) (x : ℕ)
    → ReadsFitTypes n g
    → Session n letters key g m w o
    → answer (finishing w) [] ≡ ok x
    → (m ≡ n) × (length (take x o) ≡ x) × HoldsReads n letters key g (take x o)
