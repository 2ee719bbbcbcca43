use mathlib.Core.Path.{◌∙◌, sym}
use Rattle.std.proofs.lemmas.Result.{err_from_is_err_and}
use Rattle.reading.proofs.Results.{answer_refused, answer_ok}
use Rattle.sff.specs.Header.{header}
use Rattle.sff.specs.Lookup.{read_in, read_reading}
use Rattle.sff.proofs.header.Laws.{header_there}
use Rattle.sff.proofs.lookup.read_number.Goals as goal

pub invariant_of-read_in : goal.invariant_of-read_in
invariant_of-read_in c = record { present = header_there c.args.s.now _ (sym c.in_ok-header.ensures) }

pub returns-in_err-header : goal.returns-in_err-header
unfolding read_reading
returns-in_err-header c =
    let g = c.args in
    let p = err_from_is_err_and c.from_residual.result c.from_residual.ensures.1 in
    rw (p.1, p.2) (answer_refused header g.s.now (λ d. read_in d g.k) _ 0 c.in_err-header.ensures)

pub returns : goal.returns
unfolding read_reading
returns c =
    let g = c.args in
    c.read_in.ensures ∙ answer_ok header g.s.now (λ d. read_in d g.k) _ c.in_ok-header.ensures
