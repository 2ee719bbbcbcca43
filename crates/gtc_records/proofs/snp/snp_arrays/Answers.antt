use Rattle.std.proofs.lemmas.Result.{err_from_is_err_and}
use Rattle.reading.proofs.Steps.{answer_bind, answer_done}
use Rattle.gtc_records.specs.Snp.{call_arrays, intensity_arrays, snp_arrays}
use Rattle.gtc_records.proofs.snp.snp_arrays.Goals as goal

pub returns-in_err-genotypes : goal.returns-in_err-genotypes
unfolding snp_arrays call_arrays intensity_arrays
returns-in_err-genotypes c =
    let p = err_from_is_err_and c.from_residual.result c.from_residual.ensures.1 in
    rw (p.1, p.2) (simp (answer_bind, ← c.in_err-genotypes.ensures))

pub returns-in_err-base_calls : goal.returns-in_err-base_calls
unfolding snp_arrays call_arrays intensity_arrays
returns-in_err-base_calls c =
    let p = err_from_is_err_and c.from_residual-in_err-base_calls.result c.from_residual-in_err-base_calls.ensures.1 in
    rw (p.1, p.2) (simp (answer_bind, ← c.in_ok-genotypes.ensures, ← c.in_err-base_calls.ensures))

pub returns-in_err-scores : goal.returns-in_err-scores
unfolding snp_arrays call_arrays intensity_arrays
returns-in_err-scores c =
    let p = err_from_is_err_and c.from_residual-in_err-scores.result c.from_residual-in_err-scores.ensures.1 in
    rw (p.1, p.2) (simp (answer_bind, ← c.in_ok-genotypes.ensures, ← c.in_ok-base_calls.ensures, ← c.in_err-scores.ensures))

pub returns-in_err-x : goal.returns-in_err-x
unfolding snp_arrays call_arrays intensity_arrays
returns-in_err-x c =
    let p = err_from_is_err_and c.from_residual-in_err-x.result c.from_residual-in_err-x.ensures.1 in
    rw (p.1, p.2) (simp (answer_bind, answer_done, ← c.in_ok-genotypes.ensures, ← c.in_ok-base_calls.ensures, ← c.in_ok-scores.ensures, ← c.in_err-x.ensures))

pub returns-in_err-y : goal.returns-in_err-y
unfolding snp_arrays call_arrays intensity_arrays
returns-in_err-y c =
    let p = err_from_is_err_and c.from_residual-in_err-y.result c.from_residual-in_err-y.ensures.1 in
    rw (p.1, p.2) (simp (answer_bind, answer_done, ← c.in_ok-genotypes.ensures, ← c.in_ok-base_calls.ensures, ← c.in_ok-scores.ensures, ← c.in_ok-x.ensures, ← c.in_err-y.ensures))

pub returns : goal.returns
unfolding snp_arrays call_arrays intensity_arrays
returns c = simp (answer_bind, answer_done, ← c.in_ok-genotypes.ensures, ← c.in_ok-base_calls.ensures, ← c.in_ok-scores.ensures, ← c.in_ok-x.ensures, ← c.in_ok-y.ensures)
