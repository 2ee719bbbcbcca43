use mathlib.Core.Path.{◌∙◌}
use Rattle.std.proofs.lemmas.Result.{err_from_is_err_and}
use Rattle.abif.proofs.entry.Laws.{entry_sizes, entry_place}
use Rattle.abif.proofs.entry.entry_tests.Goals as goal

pub returns-in_err-sizes_tests : goal.returns-in_err-sizes_tests
returns-in_err-sizes_tests c =
    let p = err_from_is_err_and c.from_residual.result c.from_residual.ensures.1 in
    rw (p.1, p.2) (entry_sizes c.args.s.now _ _ c.type_of.ensures _ (c.in_err-sizes_tests.ensures _))

pub returns : goal.returns
returns c =
    c.place_tests.ensures ∙ entry_place c.args.s.now _ _ c.type_of.ensures (c.in_ok-sizes_tests.ensures _)
