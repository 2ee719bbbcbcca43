use mathlib.Core.Path.{◌∙◌}
use native.Mathlib.Omega.{arith}
use Rattle.reading.proofs.Loop.{left_start, left_next, left_stop, left_end}
use Rattle.abif_write.proofs.item_contents.Laws.{each_next, each_stop, each_end}
use Rattle.abif_write.proofs.item_contents.each_holds.Goals as goal

pub loop-i-init : goal.loop-i-init
loop-i-init g c = λ meant h. left_start _ _

pub loop-i-preserved : goal.loop-i-preserved
loop-i-preserved g c = λ meant h.
    left_next _ _ _ _ (c.loop-i.invariant meant h) _ (each_next meant c.loop-i.i (h _ _ (omega arith) c.if-not-rule.ensures))

pub returns-then-not-rule : goal.returns-then-not-rule
returns-then-not-rule g c = λ meant h.
    left_stop _ _ _ _ (c.loop-i.invariant meant h) (omega arith) _ (each_stop meant c.loop-i.i (h _ _ (omega arith) c.if-not-rule.ensures))

pub returns : goal.returns
returns g c = λ meant h. each_end meant c.loop-i.i ∙ left_end _ _ _ _ (c.loop-i.invariant meant h) (omega arith) (omega arith)
