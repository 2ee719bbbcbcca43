use mathlib.Core.Path.{sym, ◌∙◌}
use lib.ListN.{length}
use Rattle.std.proofs.lemmas.Result.{err_from_is_err_and}
use Rattle.reading.proofs.Results.{answer_refused, answer_ok}
use Rattle.sff.specs.Header.{header}
use Rattle.sff.specs.Reads.{reads_in, reads_reading}
use Rattle.sff.proofs.header.Laws.{header_there}
use Rattle.sff.proofs.reads.read_many.Goals as goal

pub invariant_of-reads_in : goal.invariant_of-reads_in
invariant_of-reads_in c = record { present = header_there _ _ (sym c.in_ok-header.ensures) }

pub returns-in_err-header : goal.returns-in_err-header
unfolding reads_reading
returns-in_err-header c =
    let g = c.args in
    let p = err_from_is_err_and c.from_residual.result c.from_residual.ensures.1 in
    let e = answer_refused header g.s.now (λ d. reads_in d g.first (length g.out.now)) _ 0 c.in_err-header.ensures in
    record {
      result_value = rw (p.1, p.2, ← e);
      out_after = rw (← e);
    }

pub returns : goal.returns
unfolding reads_reading
returns c =
    let g = c.args in
    let e = answer_ok header g.s.now (λ d. reads_in d g.first (length g.out.now)) _ c.in_ok-header.ensures in
    record {
      result_value = c.reads_in.ensures.result_value ∙ rw e;
      out_after = c.reads_in.ensures.out_after ∙ rw e;
    }
