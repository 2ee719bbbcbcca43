use native.Mathlib.Omega.{arith}
use Rattle.abif_elements.proofs.text.Laws.{c_long, c_bad, c_good}
use Rattle.abif_elements.proofs.text.c_string.Goals as goal

pub overflow_sub-result : goal.overflow_sub-result
overflow_sub-result c =
    let g = c.args in
    omega (arith, c_long g.q g.l.now g.l.now (omega arith) _ c.c_string_holds.ensures c.if-not-c_string_holds.false)

pub returns-then-not-c_string_holds : goal.returns-then-not-c_string_holds
returns-then-not-c_string_holds c s =
    let g = c.args in
    c_bad g.q g.l.now s (omega arith) _ c.c_string_holds.ensures c.if-not-c_string_holds.true

pub returns : goal.returns
returns c s =
    let g = c.args in
    c_good g.q g.l.now s (omega arith) _ c.c_string_holds.ensures c.if-not-c_string_holds.false
