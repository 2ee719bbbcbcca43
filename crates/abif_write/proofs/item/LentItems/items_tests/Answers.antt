use mathlib.Core.Path.{◌∙◌}
use native.Mathlib.Omega.{arith}
use Rattle.std.proofs.lemmas.Result.{err_from_is_err_and}
use Rattle.reading.proofs.Loop.{left_start, left_next, left_stop, left_end}
use Rattle.abif_write.specs.Item.{records_of, item_at}
use Rattle.abif_write.proofs.item.Laws.{items_stop, items_order, items_next, items_end}
use Rattle.abif_write.proofs.item.LentItems.items_tests.Goals as goal

pub loop-i-init : goal.loop-i-init
loop-i-init c = left_start _ _

pub returns-in_err-item_tests : goal.returns-in_err-item_tests
returns-in_err-item_tests c =
    let s = c.args.self.now in
    let p = err_from_is_err_and c.from_residual.result c.from_residual.ensures.1 in
    rw (p.1, p.2) (left_stop _ _ _ _ c.loop-i.invariant (omega arith) _ (items_stop (item_at (records_of s)) s.buffer.now c.loop-i.i _ c.item_at.ensures _ c.in_err-item_tests.ensures))

pub returns-then-not-in_order : goal.returns-then-not-in_order
returns-then-not-in_order c =
    let s = c.args.self.now in
    left_stop _ _ _ _ c.loop-i.invariant (omega arith) _ (items_order (item_at (records_of s)) s.buffer.now c.loop-i.i _ c.item_at.ensures c.in_ok-item_tests.ensures _ c.in_order.ensures c.if-not-in_order.true)

pub loop-i-preserved : goal.loop-i-preserved
loop-i-preserved c =
    let s = c.args.self.now in
    left_next _ _ _ _ c.loop-i.invariant _ (items_next (item_at (records_of s)) s.buffer.now c.loop-i.i _ c.item_at.ensures c.in_ok-item_tests.ensures _ c.in_order.ensures c.if-not-in_order.false)

pub returns : goal.returns
returns c =
    let s = c.args.self.now in
    items_end (item_at (records_of s)) s.buffer.now c.loop-i.i ∙ left_end _ _ _ _ c.loop-i.invariant (omega arith) (omega arith)
