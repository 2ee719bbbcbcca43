use mathlib.Core.Path.{◌∙◌, ap}
use Rattle.std.proofs.lemmas.Result.{err_from_is_err_and}
use Rattle.reading.specs.Check.{ok}
use Rattle.abif.proofs.lookup.Laws.{item_wrong, item_found}
use Rattle.abif.proofs.lookup.item_of.Goals as goal

pub returns-in_err-entry_tests : goal.returns-in_err-entry_tests
returns-in_err-entry_tests c =
    let p = err_from_is_err_and c.from_residual.result c.from_residual.ensures.1 in
    rw (p.1, p.2) (item_wrong c.args.s.now c.args.d _ c.in_err-entry_tests.ensures)

pub returns : goal.returns
returns c = ap ok c.data_of.ensures ∙ item_found c.args.s.now c.args.d _ c.in_ok-entry_tests.ensures
