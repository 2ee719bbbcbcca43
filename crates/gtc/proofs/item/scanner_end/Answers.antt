use mathlib.Core.Path.{◌∙◌}
use Rattle.std.proofs.lemmas.Result.{err_from_is_err_and}
use Rattle.reading.proofs.Results.{run_wrong, run_passed}
use Rattle.gtc.specs.Item.{scanner_rest, scanner_end}
use Rattle.gtc.proofs.item.scanner_end.Goals as goal

pub returns-in_err-green-clause-result_value : goal.returns-in_err-green-clause-result_value
unfolding scanner_end
returns-in_err-green-clause-result_value c =
    let p = err_from_is_err_and c.from_residual.result c.from_residual.ensures.1 in
    rw (p.1, p.2) (run_wrong _ _ scanner_rest _ 0 c.in_err-green.ensures.result_value)

pub returns-clause-result_value : goal.returns-clause-result_value
unfolding scanner_end
returns-clause-result_value c = c.scanner_rest.ensures.result_value ∙ run_passed _ _ scanner_rest _ c.in_ok-green.ensures.result_value
