use mathlib.Core.Path.{◌∙◌}
use Rattle.std.proofs.lemmas.Result.{err_from_is_err_and}
use Rattle.reading.proofs.Results.{run_tested, run_passed}
use Rattle.gtc.specs.Item.{snp_check}
use Rattle.gtc.proofs.item.snp_tests.Goals as goal

pub returns-in_err-snps : goal.returns-in_err-snps
unfolding snp_check
returns-in_err-snps c l =
    let p = err_from_is_err_and c.from_residual.result c.from_residual.ensures.1 in
    rw (p.1, p.2) (run_tested _ _ _ _ (c.in_err-snps.ensures l))

pub returns : goal.returns
unfolding snp_check
returns c l = c.count_tests.ensures l ∙ run_passed _ _ _ _ (c.in_ok-snps.ensures l)
