use mathlib.Core.Path.{sym, ◌∙◌}
use Rattle.std.proofs.lemmas.Result.{err_from_is_err_and}
use Rattle.reading.proofs.Cut.{run_ok}
use Rattle.reading.proofs.Results.{answer_refused}
use Rattle.sff.specs.Walk.{before_read}
use Rattle.sff.specs.Lookup.{read_in}
use Rattle.sff.proofs.walk.Laws.{before_ok, skip_within}
use Rattle.sff.proofs.lookup.Laws.{in_cut, in_found}
use Rattle.sff.proofs.lookup.read_in.Goals as goal

pub skip_index-requires : goal.skip_index-requires
skip_index-requires c = (before_ok _ _ _ _ c.args.file.present (sym c.in_ok-before.ensures)).2

pub read_from-requires : goal.read_from-requires
read_from-requires c =
    let b = (before_ok _ _ _ _ c.args.file.present (sym c.in_ok-before.ensures)).2 in
    skip_within _ _ _ _ b (run_ok _ _ _ (sym c.in_ok-here.ensures))

pub returns-in_err-before : goal.returns-in_err-before
unfolding read_in
returns-in_err-before c =
    let g = c.args in
    let p = err_from_is_err_and c.from_residual.result c.from_residual.ensures.1 in
    rw (p.1, p.2) (answer_refused (before_read g.file.header g.k) g.file.bytes.now _ _ 0 c.in_err-before.ensures)

pub returns-in_err-here : goal.returns-in_err-here
returns-in_err-here c =
    let p = err_from_is_err_and c.from_residual-in_err-here.result c.from_residual-in_err-here.ensures.1 in
    rw (p.1, p.2) (in_cut _ _ _ _ (sym c.in_ok-before.ensures) _ c.in_err-here.ensures)

pub returns : goal.returns
returns c = c.read_from.ensures ∙ in_found _ _ _ _ (sym c.in_ok-before.ensures) _ (sym c.in_ok-here.ensures)
