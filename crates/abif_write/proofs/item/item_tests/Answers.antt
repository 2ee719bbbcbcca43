use mathlib.Core.Bool.{true, false}
use Rattle.std.proofs.lemmas.Result.{err_from_is_err_and}
use native.Mathlib.Omega.{arith}
use Rattle.std.proofs.Common.{rules}
use Rattle.reading.specs.Check.{answer}
use Rattle.reading.proofs.Tests.{tests}
use Rattle.abif_write.specs.Item.{item_check}
use Rattle.abif_write.proofs.item.Laws.{item_count, item_contents}
use Rattle.abif_write.proofs.item.item_tests.Goals as goal

pub returns-then-buffer-d : goal.returns-then-buffer-d
unfolding item_check answer
returns-then-buffer-d c = search (tests, rules)

pub returns-then-not-is_taken : goal.returns-then-not-is_taken
unfolding item_check answer
returns-then-not-is_taken c = search (tests, rules, ← c.is_taken.ensures)

pub returns-in_err-count_tests : goal.returns-in_err-count_tests
returns-in_err-count_tests c =
    let g = c.args in
    let p = err_from_is_err_and c.from_residual.result c.from_residual.ensures.1 in
    rw (p.1, p.2) (item_count g.buffer.now g.d (omega arith) _ c.is_taken.ensures c.if-not-is_taken.false _ c.in_err-count_tests.ensures)

pub returns-then-not-contents_hold : goal.returns-then-not-contents_hold
returns-then-not-contents_hold c =
    let g = c.args in
    item_contents g.buffer.now g.d (omega arith) _ c.is_taken.ensures c.if-not-is_taken.false c.in_ok-count_tests.ensures false c.if-not-contents_hold.ensures

pub returns : goal.returns
returns c =
    let g = c.args in
    item_contents g.buffer.now g.d (omega arith) _ c.is_taken.ensures c.if-not-is_taken.false c.in_ok-count_tests.ensures true c.if-not-contents_hold.ensures
