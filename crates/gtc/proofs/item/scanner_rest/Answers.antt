use Rattle.reading.specs.Check.{run}
use Rattle.reading.proofs.Tests.{tests}
use native.Mathlib.Omega.{arith}
use mathlib.Core.Path.{◌∙◌}
use Rattle.std.proofs.lemmas.Result.{err_from_is_err_and}
use Rattle.reading.proofs.Results.{run_wrong, run_passed}
use Rattle.gtc.specs.Item.{string_end, scanner_rest}
use Rattle.gtc.proofs.item.Laws.{rest_on}
use Rattle.gtc.proofs.item.scanner_rest.Goals as goal

pub returns-then-s-red-clause-result_value : goal.returns-then-s-red-clause-result_value
unfolding scanner_rest run
returns-then-s-red-clause-result_value c = search tests

pub returns-then-s-version-clause-result_value : goal.returns-then-s-version-clause-result_value
unfolding scanner_rest run
returns-then-s-version-clause-result_value c = search tests

pub returns-in_err-user-clause-result_value : goal.returns-in_err-user-clause-result_value
returns-in_err-user-clause-result_value c =
    let p = err_from_is_err_and c.from_residual.result c.from_residual.ensures.1 in
    rw (p.1, p.2) (run_wrong _ _ string_end _ 0 c.in_err-user.ensures.result_value ∙ rest_on _ _ (omega arith))

pub returns-clause-result_value : goal.returns-clause-result_value
returns-clause-result_value c =
    c.string_end-2.ensures.result_value ∙ run_passed _ _ string_end _ c.in_ok-user.ensures.result_value ∙ rest_on _ _ (omega arith)
