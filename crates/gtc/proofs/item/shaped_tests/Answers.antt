use mathlib.Core.Path.{◌∙◌}
use Rattle.std.proofs.lemmas.Result.{err_from_is_err_and}
use Rattle.reading.proofs.Results.{run_tested, run_passed}
use Rattle.gtc.specs.Item.{shaped_check}
use Rattle.gtc.proofs.item.shaped_tests.Goals as goal

pub returns-in_err-offset_tests : goal.returns-in_err-offset_tests
unfolding shaped_check
returns-in_err-offset_tests c =
    let p = err_from_is_err_and c.from_residual.result c.from_residual.ensures.1 in
    rw (p.1, p.2) (run_tested _ _ _ _ (c.in_err-offset_tests.ensures c.args.s.now))

pub returns : goal.returns
unfolding shaped_check
returns c = c.shape_tests.ensures ∙ run_passed _ _ _ _ (c.in_ok-offset_tests.ensures c.args.s.now)
