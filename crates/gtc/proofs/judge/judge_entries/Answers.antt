use mathlib.Core.Path.{sym, ◌∙◌}
use native.Mathlib.Omega.{arith}
use Rattle.reading.proofs.Loop.{left_next, left_stop, left_end}
use Rattle.reading.proofs.Entries.{order_wrong, order_next, order_end}
use Rattle.gtc.specs.Judge.{judge_entry}
use Rattle.gtc.proofs.judge.judge_entries.Goals as goal

pub returns-in-Err : goal.returns-in-Err
returns-in-Err c =
    let g = c.args in
    rw c.at.ensures (left_stop _ _ _ _ c.loop-i.invariant (omega arith) _ (λ m. sym (order_wrong (judge_entry g.t.up_to.now g.t.count) g.s.now c.loop-i.i c.loop-i.x _ c.in-Err.ensures m)))

pub loop-i-preserved : goal.loop-i-preserved
loop-i-preserved c =
    let g = c.args in
    left_next _ _ _ _ c.loop-i.invariant _ (order_next (judge_entry g.t.up_to.now g.t.count) g.s.now c.loop-i.i c.loop-i.x _ _ c.in-Ok.ensures c.max-x.ensures)

pub returns : goal.returns
returns c =
    let g = c.args in
    order_end (judge_entry g.t.up_to.now g.t.count) g.s.now c.loop-i.i c.loop-i.x ∙ left_end _ _ _ _ c.loop-i.invariant (omega arith) (omega arith)
