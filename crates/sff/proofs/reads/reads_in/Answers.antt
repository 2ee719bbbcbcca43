use mathlib.Core.Path.{◌∙◌}
use native.Mathlib.Omega.{arith}
use lib.ListN.{length}
use Rattle.sff.proofs.reads.Laws.{in_none, in_past, in_full, in_read}
use Rattle.sff.proofs.reads.reads_in.Goals.{then-first-lt1-via-then-first-lt1, then-first-lt1-via-else-first-lt1+then-reads-first}
use Rattle.sff.proofs.reads.reads_in.Goals as goal

pub returns-then-first-lt1 : goal.returns-then-first-lt1
returns-then-first-lt1 c =
    let g = c.args in
    elim c.then-first-lt1.branch [
      | then-first-lt1-via-then-first-lt1 w ↦ let e = in_none g.file.header g.first (length g.out.now) g.file.bytes.now w.if-first-lt1.true in record {
        result_value = rw (← e);
        out_after = rw (← e);
      }
      | then-first-lt1-via-else-first-lt1+then-reads-first w ↦ let e = in_past g.file.header g.first (length g.out.now) g.file.bytes.now w.if-first-lt1.false w.if-reads-first.true in record {
        result_value = rw (← e);
        out_after = rw (← e);
      }
    ]

pub returns-then-out-lt-RECORD_WIDTH : goal.returns-then-out-lt-RECORD_WIDTH
returns-then-out-lt-RECORD_WIDTH c =
    let g = c.args in
    let e = in_full g.file.header g.first (length g.out.now) g.file.bytes.now (omega arith) (omega arith) c.if-out-lt-RECORD_WIDTH.true in
    record {
      result_value = rw (← e);
      out_after = rw (← e);
    }

pub returns : goal.returns
returns c =
    let g = c.args in
    let e = in_read g.file.header g.first (length g.out.now) g.file.bytes.now (omega arith) (omega arith) (omega arith) _ c.min-n.ensures in
    record {
      result_value = c.reads_from.ensures.result_value ∙ rw e;
      out_after = c.reads_from.ensures.out_after ∙ rw e;
    }
