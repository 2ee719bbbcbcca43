use mathlib.Core.Path.{◌∙◌}
use Rattle.std.proofs.lemmas.Result.{err_from_is_err_and}
use Rattle.reading.proofs.Results.{run_wrong, run_passed}
use Rattle.gtc.specs.Item.{shape_check}
use Rattle.gtc.proofs.item.array_tests.Goals as goal

pub returns-in_err-m : goal.returns-in_err-m
unfolding shape_check
returns-in_err-m c h n =
    let p = err_from_is_err_and c.from_residual.result c.from_residual.ensures.1 in
    rw (p.1, p.2) (run_wrong _ _ _ _ 0 c.in_err-m.ensures)

pub returns : goal.returns
unfolding shape_check
returns c h n = c.elements_of.ensures ∙ run_passed _ _ _ _ c.in_ok-m.ensures
