-- The reading calls of GTC.
use Rattle.std.specs.Prelude.{ℕ, List, length}
use Rattle.reading.specs.Bulk.{records}
use Rattle.gtc.specs.Judge.{judging, extent_of}
use Rattle.gtc.specs.Lookup.{looking_up}
use Rattle.reading.specs.Item.{data_span}
use Rattle.gtc_records.specs.Snp.{snp_reading}
use Rattle.gtc_records.specs.Snps.{snps_reading, snp_numbers}
use Rattle.gtc_records.specs.Transformation.{transformation_reading, transformation_span}
use Rattle.promises.specs.Format.{ReadingCall, plain, handing, filling, Format}

pub data Call : Type 0 where
  -- gtc::judge::judge, jt_gtc_judge
  judge : Call
  -- gtc::lookup::lookup, gtc::lookup::data_part, jt_gtc_lookup
  lookup : (id : ℕ) → Call
  -- gtc_records::snp::read_snp, jt_gtc_snp
  snp : (index : ℕ) → Call
  -- gtc_records::snps::read_snps, jt_gtc_snps
  -- the lent output goes in
  snps : (first : ℕ) → List ℕ → Call
  -- gtc_records::transformation::read_transformation, gtc_records::transformation::transformation_part, jt_gtc_transformation
  transformation : (number : ℕ) → Call

-- Lookup hands back the data, and a transformation its 52 bytes, so that the bits of its floats are seen too; the bulk call writes of each SNP what the
-- single call answers.
abbrev pub call : Call → ReadingCall
call judge = plain judging
call (lookup id) = handing (looking_up id) data_span
call (snp index) = plain (snp_reading index)
call (snps first out) = filling (snps_reading first (length out)) (records 9 snp_numbers) out
call (transformation number) = handing (transformation_reading number) transformation_span

abbrev pub gtc : Format
gtc = record { Call = Call; call = call; judging = judge; extent = extent_of }
