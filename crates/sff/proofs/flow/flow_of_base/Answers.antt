use mathlib.Core.Path.{◌∙◌, sym}
use Rattle.std.proofs.lemmas.Result.{err_from_is_err_and}
use Rattle.reading.proofs.Results.{answer_refused, answer_ok}
use Rattle.sff_fields.specs.declared.parts.ReadPart.TheVariants.{Steps}
use Rattle.sff.specs.Lookup.{read_reading}
use Rattle.sff.specs.Flow.{flow_of, flow_reading}
use Rattle.sff.proofs.lookup.Laws.{number_fits}
use Rattle.sff.proofs.flow.flow_of_base.Goals as goal

pub flow_in-requires : goal.flow_in-requires
flow_in-requires c = number_fits c.args.s.now c.args.k _ (sym c.in_ok-r.ensures) Steps

pub returns-in_err-r : goal.returns-in_err-r
unfolding flow_reading
returns-in_err-r c =
    let g = c.args in
    let p = err_from_is_err_and c.from_residual.result c.from_residual.ensures.1 in
    rw (p.1, p.2) (answer_refused (read_reading g.k) g.s.now (λ r. flow_of r g.base) _ 0 c.in_err-r.ensures)

pub returns : goal.returns
unfolding flow_reading
returns c =
    let g = c.args in
    c.flow_in.ensures ∙ answer_ok (read_reading g.k) g.s.now (λ r. flow_of r g.base) _ c.in_ok-r.ensures
