use mathlib.Core.Path.{sym, ◌∙◌}
use native.Mathlib.Omega.{arith}
use Rattle.reading.proofs.Loop.{left_next, left_end}
use Rattle.contents.proofs.steps.Laws.{sum_start, sum_on, sum_end}
use Rattle.contents.proofs.steps.chunk_sum.Goals as goal

pub loop-step-init : goal.loop-step-init
loop-step-init c = (omega arith, sum_start _ _)

pub loop-step-preserved : goal.loop-step-preserved
loop-step-preserved c =
    let l = c.loop-step in
    (omega arith, left_next _ _ _ _ l.invariant.1 _ (sum_on c.args.steps.now l.step-index l.sum _ c.from-sum.ensures))

pub returns : goal.returns
returns c = sym (sum_end c.args.steps.now _ _) ∙ left_end _ _ _ _ c.loop-step.invariant.1 (omega arith) (omega arith)
