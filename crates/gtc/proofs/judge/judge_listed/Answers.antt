use mathlib.Core.Bool.{false}
use native.Mathlib.Omega.{arith}
use mathlib.Core.Path.{sym, ◌∙◌, ap}
use Rattle.std.proofs.lemmas.Result.{err_from_is_err_and}
use Rattle.reading.proofs.Cut.{run_ok}
use Rattle.reading.specs.declared.check.Field.{Field}
use Rattle.reading.specs.declared.check.Rule.TheVariants.{Other}
use Rattle.reading.specs.declared.check.Requirement.TheVariants.{NewId}
use Rattle.reading.specs.Check.{failed}
use Rattle.gtc.proofs.item.Laws.{item_within}
use Rattle.gtc.proofs.judge.Laws.{listed_twice, listed_wrong, listed_end}
use Rattle.gtc.proofs.judge.judge_listed.Goals as goal

pub returns-then-is_earlier : goal.returns-then-is_earlier
returns-then-is_earlier c =
    let g = c.args in
    ap (λ (f : Field). failed (record { field = f; rule = Other NewId false; number = 8 }) 0) c.id_field.ensures ∙ listed_twice g.s.now g.t.up_to.now g.t.count g.i g.v g.d _ c.is_earlier.ensures c.if-is_earlier.true

pub overflow_add-result : goal.overflow_add-result
overflow_add-result c =
    let w = item_within _ _ _ _ _ _ (run_ok _ c.args.s.now _ (sym c.in_ok-q.ensures)) in
    omega arith

pub returns-in_err-q : goal.returns-in_err-q
returns-in_err-q c =
    let g = c.args in
    let p = err_from_is_err_and c.from_residual.result c.from_residual.ensures.1 in
    rw (p.1, p.2) (listed_wrong g.s.now g.t.up_to.now g.t.count g.i g.v g.d _ c.is_earlier.ensures c.if-is_earlier.false _ c.in_err-q.ensures)

pub returns : goal.returns
returns c =
    let g = c.args in
    listed_end g.s.now g.t.up_to.now g.t.count g.i g.v g.d _ c.is_earlier.ensures c.if-is_earlier.false _ c.in_ok-q.ensures
