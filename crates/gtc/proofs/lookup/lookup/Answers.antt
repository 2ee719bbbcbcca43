use mathlib.Core.Path.{◌∙◌}
use Rattle.std.proofs.lemmas.Result.{err_from_is_err_and}
use Rattle.reading.proofs.Results.{answer_wrong_behind, answer_passed, answer_ok}
use Rattle.gtc.specs.Table.{Table, table}
use Rattle.gtc.specs.Lookup.{lookup_in, looking_up}
use Rattle.gtc.proofs.lookup.lookup.Goals as goal

pub returns-in_err-t : goal.returns-in_err-t
unfolding looking_up
returns-in_err-t c =
    let g = c.args in
    let p = err_from_is_err_and c.from_residual.result c.from_residual.ensures.1 in
    rw (p.1, p.2) (answer_wrong_behind table _ (λ (t : Table). lookup_in t.up_to t.count g.id) _ 0 c.in_err-t.ensures)

pub returns : goal.returns
unfolding looking_up
returns c =
    let g = c.args in
    let s = g.s.now in
    c.lookup_in.ensures ∙ answer_ok table s (λ (t : Table). lookup_in t.up_to t.count g.id) _ (answer_passed table s _ c.in_ok-t.ensures)
