-- The reading calls of SFF.
use Rattle.std.specs.Prelude.{ℕ, List, length}
use Rattle.reading.specs.Bulk.{records}
use Rattle.sff_fields.specs.declared.parts.ReadPart.{ReadPart}
use Rattle.sff_fields.specs.declared.position.BasePosition.{BasePosition}
use Rattle.sff.specs.Header.{header}
use Rattle.sff.specs.Judge.{judging, extent_of}
use Rattle.sff.specs.Lookup.{read_reading}
use Rattle.sff_fields.specs.Parts.{span_of, read_numbers}
use Rattle.sff.specs.Reads.{reads_reading}
use Rattle.sff.specs.Flow.{flow_reading}
use Rattle.promises.specs.Format.{ReadingCall, plain, handing, filling, Format}

pub data Call : Type 0 where
  -- sff::judge::judge, jt_sff_judge
  judge : Call
  -- sff::header::read_fields, jt_sff_header
  fields : Call
  -- sff::lookup::read_number, sff::lookup::read_part, jt_sff_read
  -- a read by its number, with the part of it that is asked for
  read : (number : ℕ) → ReadPart → Call
  -- sff::reads::read_many, jt_sff_reads
  -- the lent output goes in
  reads : (first : ℕ) → List ℕ → Call
  -- sff::flow::flow_of_base, jt_sff_flow_of_base
  flow_of_base : (number : ℕ) → BasePosition → Call

-- the bulk call writes of each read what the single call answers
abbrev pub call : Call → ReadingCall
call judge = plain judging
call fields = plain header
call (read number part) = handing (read_reading number) (span_of part)
call (reads first out) = filling (reads_reading first (length out)) (records 17 read_numbers) out
call (flow_of_base number base) = plain (flow_reading number base)

abbrev pub sff : Format
sff = record { Call = Call; call = call; judging = judge; extent = extent_of }
