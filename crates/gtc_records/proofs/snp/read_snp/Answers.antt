use mathlib.Core.Path.{◌∙◌, sym}
use Rattle.std.proofs.lemmas.Result.{err_from_is_err_and}
use Rattle.reading.proofs.Results.{answer_refused, answer_ok}
use Rattle.gtc_records.specs.Snp.{snp_of, snp_reading}
use Rattle.gtc_records.proofs.snp.Laws.{arrays_present, arrays_sized}
use Rattle.gtc_records.proofs.snp.read_snp.Goals as goal

pub returns-in_err-a : goal.returns-in_err-a
unfolding snp_reading
returns-in_err-a c =
    let g = c.args in
    let p = err_from_is_err_and c.from_residual.result c.from_residual.ensures.1 in
    rw (p.1, p.2) (answer_refused _ _ (λ a. snp_of a g.index) _ 0 c.in_err-a.ensures)

pub snp_of-requires : goal.snp_of-requires
snp_of-requires c =
    let s = c.args.s.now in
    let w = sym c.in_ok-a.ensures in
    (arrays_present s _ w, arrays_sized s _ w)

pub returns : goal.returns
unfolding snp_reading
returns c =
    let g = c.args in
    c.snp_of.ensures ∙ answer_ok _ _ (λ a. snp_of a g.index) _ c.in_ok-a.ensures
