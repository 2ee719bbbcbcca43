use mathlib.Core.Path.{◌∙◌, sym}
use lib.ListN.{length}
use Rattle.std.proofs.lemmas.Result.{err_from_is_err_and}
use Rattle.reading.proofs.Results.{answer_refused, answer_ok}
use Rattle.gtc_records.specs.Snp.{snp_arrays}
use Rattle.gtc_records.specs.Snps.{snps_of, snps_reading}
use Rattle.gtc_records.proofs.snp.Laws.{arrays_present, arrays_sized}
use Rattle.gtc_records.proofs.snps.read_snps.Goals as goal

pub returns-in_err-a : goal.returns-in_err-a
unfolding snps_reading
returns-in_err-a c =
    let g = c.args in
    let p = err_from_is_err_and c.from_residual.result c.from_residual.ensures.1 in
    let e = answer_refused snp_arrays g.s.now (λ a. snps_of a g.first (length g.out.now)) _ 0 c.in_err-a.ensures in
    rw (p.1, p.2) (record {
      result_value = rw (← e);
      out_after = rw (← e);
    })

pub snps_of-requires : goal.snps_of-requires
snps_of-requires c =
    let s = c.args.s.now in
    let w = sym c.in_ok-a.ensures in
    (arrays_present s _ w, arrays_sized s _ w)

pub returns : goal.returns
unfolding snps_reading
returns c =
    let g = c.args in
    let e = answer_ok snp_arrays g.s.now (λ a. snps_of a g.first (length g.out.now)) _ c.in_ok-a.ensures in
    record {
      result_value = c.snps_of.ensures.result_value ∙ rw e;
      out_after = c.snps_of.ensures.out_after ∙ rw e;
    }
