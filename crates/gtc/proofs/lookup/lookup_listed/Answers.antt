use mathlib.Core.Path.{◌∙◌}
use Rattle.std.proofs.lemmas.Result.{err_from_is_err_and}
use Rattle.reading.specs.declared.check.Failure.TheVariants.{Failed}
use Rattle.reading.proofs.Results.{answer_wrong, answer_wrong_behind, answer_passed, answer_ok}
use Rattle.gtc.specs.Lookup.{lookup_listed}
use Rattle.gtc.proofs.lookup.lookup_listed.Goals as goal

pub returns-in_err-d : goal.returns-in_err-d
unfolding lookup_listed
returns-in_err-d c =
    let p = err_from_is_err_and c.from_residual.result c.from_residual.ensures.1 in
    rw (p.1, p.2) (answer_wrong_behind _ _ _ (Failed _) 0 (c.in_err-d.ensures c.args.s.now))

pub returns-in_err-item_tests : goal.returns-in_err-item_tests
unfolding lookup_listed
returns-in_err-item_tests c =
    let s = c.args.s.now in
    let p = err_from_is_err_and c.from_residual-in_err-item_tests.result c.from_residual-in_err-item_tests.ensures.1 in
    rw (p.1, p.2) (answer_wrong _ s _ 0 c.in_err-item_tests.ensures ∙ answer_ok _ s _ _ (answer_passed _ s _ (c.in_ok-d.ensures s)))

pub returns : goal.returns
unfolding lookup_listed
returns c =
    let s = c.args.s.now in
    answer_passed _ s _ c.in_ok-item_tests.ensures ∙ answer_ok _ s _ _ (answer_passed _ s _ (c.in_ok-d.ensures s))
