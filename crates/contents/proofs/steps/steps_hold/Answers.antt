use mathlib.Core.Path.{sym, ◌∙◌}
use native.Mathlib.Omega.{arith}
use borrow.Author.Tests.{lt-leb}
use Rattle.std.proofs.lemmas.Option.{get_or_from_slice_get}
use Rattle.contents.proofs.text.Laws.{be_byte}
use Rattle.contents.proofs.steps.Laws.{steps_none, steps_zero, steps_on, sum_tells}
use Rattle.contents.proofs.steps.steps_hold.Goals as goal

pub returns-then-first-ge1 : goal.returns-then-first-ge1
returns-then-first-ge1 c l =
    let g = c.args in
    let e = sym (be_byte g.steps.now 0 ∙ get_or_from_slice_get g.steps.now 0 _ 0 (sym c.in-Some.ensures.value)) in
    let h = c.in-Some.ensures.item in
    steps_on g.flows g.steps.now l 0 _ (λ z. omega arith) _ e c.if-first-ge1.true _ (rw c.from-most.ensures (sum_tells g.flows _ g.steps.now (rw c.from-most.ensures at c.sum_up_to.ensures.0)))

pub returns-else-first-ge1 : goal.returns-else-first-ge1
returns-else-first-ge1 c l =
    let g = c.args in
    let e = sym (be_byte g.steps.now 0 ∙ get_or_from_slice_get g.steps.now 0 _ 0 (sym c.in-Some.ensures.value)) in
    let h = c.in-Some.ensures.item in
    rw (lt-leb 1 _ c.if-first-ge1.false) (steps_zero g.flows g.steps.now l 0 _ (λ z. omega arith) _ e c.if-first-ge1.false)

pub returns-in-None : goal.returns-in-None
returns-in-None c l =
    let h = c.in-None.ensures.item.3 in
    steps_none c.args.flows c.args.steps.now l 0 _ (omega arith)
