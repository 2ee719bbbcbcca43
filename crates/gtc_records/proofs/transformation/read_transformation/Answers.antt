use mathlib.Core.Path.{◌∙◌, sym}
use Rattle.std.proofs.lemmas.Result.{err_from_is_err_and}
use Rattle.reading.proofs.Results.{answer_refused, answer_ok}
use Rattle.gtc.specs.Item.{normalization_transformations_id}
use Rattle.gtc_records.specs.Transformation.{transformation_of, transformation_reading}
use Rattle.gtc.proofs.lookup.Laws.{lookup_within}
use Rattle.gtc_records.proofs.transformation.read_transformation.Goals as goal

pub returns-in_err-q : goal.returns-in_err-q
unfolding transformation_reading
returns-in_err-q c =
    let g = c.args in
    let p = err_from_is_err_and c.from_residual.result c.from_residual.ensures.1 in
    rw (p.1, p.2) (answer_refused _ _ (λ q. transformation_of q g.k) _ 0 c.in_err-q.ensures)

pub transformation_of-requires : goal.transformation_of-requires
transformation_of-requires c = lookup_within normalization_transformations_id c.args.s.now _ (sym c.in_ok-q.ensures)

pub returns : goal.returns
unfolding transformation_reading
returns c =
    let g = c.args in
    c.transformation_of.ensures ∙ answer_ok _ _ (λ q. transformation_of q g.k) _ c.in_ok-q.ensures
