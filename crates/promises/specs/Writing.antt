-- The calls of the writers, with all that they are lent. They are lent no file, so each is run on no bytes.
use Rattle.std.specs.Prelude.{ℕ, List, [], length}
use Rattle.reading.specs.Check.{Check, Answer}
use Rattle.reading.specs.Lent.{filled}
use Rattle.abif_write.specs.Write as Abif
use Rattle.abif_write.specs.Item.{Records}
use Rattle.sff_write.specs.declared.write.Writer.{Writer}
use Rattle.sff_write.specs.Read.{GivenRead}
use Rattle.sff_write.specs.Write.{Piece, beginning, adding, finishing, written_at}

pub data Writing : Type 0 where
  -- an ABIF file of the items that the records name, with their data
  abif : Records → (buffer out : List ℕ) → Writing
  -- an SFF header, a read behind what is written, and the end of the file
  begin : (reads : ℕ) (letters key out : List ℕ) → Writing
  add : (w : Writer) → GivenRead → (out : List ℕ) → Writing
  finish : Writer → Writing

-- A writer's call with all that it is lent.
pub record WritingCall : Type 1 where
  -- what it answers where it refuses nothing
  pub Value : Type 0
  pub checks : Check Value
  -- the output that it is lent, and what that holds after the call
  pub lent : List ℕ
  pub after : Answer Value → List ℕ

-- a call that writes a whole file to the front of its output
abbrev pub whole_file : Check (List ℕ) → List ℕ → WritingCall
whole_file t out = record { Value = List ℕ; checks = t; lent = out; after = λ r. filled r out }

-- a call that writes a piece of a file from this place on
abbrev pub piece : Check Piece → ℕ → List ℕ → WritingCall
piece t place out = record { Value = Piece; checks = t; lent = out; after = λ r. written_at place r out }

-- a call that is lent no output, and answers the file's length
abbrev pub length_only : Check ℕ → WritingCall
length_only t = record { Value = ℕ; checks = t; lent = []; after = λ _. [] }

abbrev pub call : Writing → WritingCall
call (abif r buffer out) = whole_file (Abif.writing r buffer (length out)) out
call (begin reads letters key out) = piece (beginning reads letters key (length out)) 0 out
call (add w r out) = piece (adding w r (length out)) w.at out
call (finish w) = length_only (finishing w)
