use mathlib.Core.Path.{sym, ◌∙◌, ap}
use Rattle.std.proofs.lemmas.Result.{err_from_is_err_and}
use Rattle.reading.specs.Check.{passed}
use Rattle.reading.proofs.Steps.{run_done}
use Rattle.reading.proofs.Results.{run_wrong, run_passed}
use Rattle.gtc.specs.Item.{shape_check}
use Rattle.gtc.proofs.item.text_tests.Goals as goal

pub returns-in_err-end : goal.returns-in_err-end
unfolding shape_check
returns-in_err-end c h n =
    let p = err_from_is_err_and c.from_residual.result c.from_residual.ensures.1 in
    rw (p.1, p.2) (run_wrong _ _ _ _ 0 c.in_err-end.ensures.result_value)

pub returns : goal.returns
unfolding shape_check
returns c h n = ap passed c.item_up_to.ensures ∙ sym (run_done _ _) ∙ run_passed _ _ _ _ c.in_ok-end.ensures.result_value
