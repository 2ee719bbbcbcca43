-- SFF: the writer's calls. Each is a tree of checks in document 01's order, run on no bytes.
use Rattle.std.specs.Prelude.{ℕ, ◌+◌, List, leb, ltb, eqb, length}
use Rattle.reading.specs.Check.{Check, Answer, ok, refused, done, provided, ◌>>◌}
use Rattle.sff_fields.specs.Contents.{contents_check}
use Rattle.writing.specs.Put.{put}
use Rattle.sff_write.specs.declared.write.Writer.{Writer}
use Rattle.sff_write.specs.Header.{header_size, header_bytes}
use Rattle.sff_write.specs.Read.{GivenRead, header_for, lengths_check, read_bytes}

-- what a call writes, and the state of the file behind it
pub record Piece : Type 0 where
  pub bytes : List ℕ
  pub state : Writer

-- the state behind what a call writes, which it hands back
abbrev pub behind : Piece → Writer
behind piece = piece.state

-- the header of a file of so many reads, of which none is written yet
abbrev pub header_piece : ℕ → List ℕ → List ℕ → Piece
header_piece reads letters key =
    record {
      bytes = header_bytes reads letters key;
      state = record { reads = reads; written = 0; flows = length letters; at = header_size letters key };
    }

-- a header for a stated number of reads: a length too large for its field 9, room 13
unfoldable pub beginning : ℕ → List ℕ → List ℕ → ℕ → Check Piece
beginning reads letters key room = do
  provided (leb (length letters) 65535) 9
  provided (leb (length key) 65535) 9
  provided (leb (header_size letters key) 65535) 9
  provided (leb (header_size letters key) room) 13
  done (header_piece reads letters key)

-- the bytes of a read that starts behind what is written
abbrev pub next_bytes : Writer → GivenRead → List ℕ
next_bytes writer read = read_bytes (header_for writer.at read) read

-- the state behind the read
abbrev pub next_state : Writer → GivenRead → Writer
next_state writer read =
    record {
      reads = writer.reads;
      written = writer.written + 1;
      flows = writer.flows;
      at = writer.at + length (next_bytes writer read);
    }

-- a read whose lengths fit: contents 11, room 13
unfoldable pub adding_fit : Writer → GivenRead → ℕ → Check Piece
adding_fit writer read room = do
  contents_check (header_for writer.at read) writer.flows read.steps
  provided (leb (writer.at + length (next_bytes writer read)) room) 13
  done (record { bytes = next_bytes writer read; state = next_state writer read })

-- the next read: a read past the stated number 9, lengths that do not fit or disagree 9, then contents and room
unfoldable pub adding : Writer → GivenRead → ℕ → Check Piece
adding writer read room = do
  provided (ltb writer.written writer.reads) 9
  lengths_check writer.flows read
  adding_fit writer read room

-- finishing before the stated number is reached is 9; the answer is the file's length
unfoldable pub finishing : Writer → Check ℕ
finishing writer = do
  provided (eqb writer.written writer.reads) 9
  done writer.at

-- what an output holds after a call that writes at this place; refused, what it held
abbrev pub written_at : ℕ → Answer Piece → List ℕ → List ℕ
written_at place (ok piece) out = put out place piece.bytes
written_at place (refused n e) out = out
