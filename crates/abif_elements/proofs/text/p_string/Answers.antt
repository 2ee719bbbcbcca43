use native.Mathlib.Omega.{arith}
use Rattle.abif_elements.proofs.text.Laws.{p_long, p_bad, p_good}
use Rattle.abif_elements.proofs.text.p_string.Goals as goal

pub overflow_sub-result : goal.overflow_sub-result
overflow_sub-result c =
    let g = c.args in
    omega (arith, p_long g.q g.l.now g.l.now (omega arith) _ c.p_string_holds.ensures c.if-not-p_string_holds.false)

pub returns-then-not-p_string_holds : goal.returns-then-not-p_string_holds
returns-then-not-p_string_holds c s =
    let g = c.args in
    p_bad g.q g.l.now s (omega arith) _ c.p_string_holds.ensures c.if-not-p_string_holds.true

pub returns : goal.returns
returns c s =
    let g = c.args in
    p_good g.q g.l.now s (omega arith) _ c.p_string_holds.ensures c.if-not-p_string_holds.false
