use mathlib.Core.Path.{◌≡◌}
use mathlib.Core.Bool.{false}
use Rattle.std.proofs.lemmas.Result.{err_from_is_err_and}
use Rattle.reading.specs.declared.check.Rule.TheVariants.{Other}
use Rattle.reading.specs.declared.check.Requirement.TheVariants.{IndexMet}
use Rattle.reading.specs.declared.refusal.Refusal.TheVariants.{BadHeader}
use Rattle.reading.proofs.Results.{run_wrong}
use Rattle.sff.specs.Walk.{skip_index}
use Rattle.sff.specs.Judge.{ending}
use Rattle.sff.proofs.judge.Laws.{ending_none, ending_behind, ending_unmet}
use Rattle.sff.proofs.judge.judge_ending.Goals.{else-d-ne0-via-then-d-ne0+else-not-c, else-d-ne0-via-else-d-ne0}
use Rattle.sff.proofs.judge.judge_ending.Goals as goal

pub returns-in_err-c : goal.returns-in_err-c
unfolding ending
returns-in_err-c c =
    let p = err_from_is_err_and c.from_residual.result c.from_residual.ensures.1 in
    rw (p.1, p.2) (run_wrong (skip_index c.args.file.header c.args.b) c.args.file.bytes.now _ _ 0 c.in_err-c.ensures)

pub returns-in_err-failed : goal.returns-in_err-failed
returns-in_err-failed c =
    let p = err_from_is_err_and c.from_residual-in_err-failed.result c.from_residual-in_err-failed.ensures.1 in
    let t : c.in_err-failed.field-0.0 ≡ record { field = c.index_offset_field.result; rule = Other IndexMet false; refusal = BadHeader } = cc c.in_err-failed.ensures in
    rw (p.1, p.2, t, c.index_offset_field.ensures) (ending_unmet _ _ _ _ c.in_ok-c.ensures c.if-d-ne0.true c.if-not-c.true)

pub returns-else-d-ne0 : goal.returns-else-d-ne0
returns-else-d-ne0 c =
    elim c.else-d-ne0.branch [
      | else-d-ne0-via-then-d-ne0+else-not-c w ↦ ending_behind _ _ _ _ c.in_ok-c.ensures w.if-d-ne0.true w.if-not-c.false
      | else-d-ne0-via-else-d-ne0 w ↦ ending_none _ _ _ _ c.in_ok-c.ensures w.if-d-ne0.false
    ]
