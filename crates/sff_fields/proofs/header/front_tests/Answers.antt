use mathlib.Core.Path.{◌∙◌}
use Rattle.std.proofs.lemmas.Result.{err_from_is_err_and}
use Rattle.reading.proofs.Results.{run_tested}
use Rattle.sff_fields.specs.Header.{mark_check, front_check}
use Rattle.sff_fields.proofs.header.Laws.{front_length, front_index}
use Rattle.sff_fields.proofs.header.front_tests.Goals as goal

pub returns-in_err-mark_tests : goal.returns-in_err-mark_tests
unfolding front_check
returns-in_err-mark_tests c = λ l. let p = err_from_is_err_and c.from_residual.result c.from_residual.ensures.1 in rw (p.1, p.2) (run_tested (mark_check c.args.mark c.args.version) l _ _ (c.in_err-mark_tests.ensures l))

pub returns-in_err-length_tests : goal.returns-in_err-length_tests
returns-in_err-length_tests c = λ l. let p = err_from_is_err_and c.from_residual-in_err-length_tests.result c.from_residual-in_err-length_tests.ensures.1 in rw (p.1, p.2) (front_length _ _ _ _ l (c.in_ok-mark_tests.ensures l) _ (c.in_err-length_tests.ensures l))

pub returns : goal.returns
returns c = λ l. c.index_tests.ensures l ∙ front_index _ _ _ _ l (c.in_ok-mark_tests.ensures l) (c.in_ok-length_tests.ensures l)
