use Rattle.gtc.proofs.item.Laws.{string_short, string_cut, string_at}
use Rattle.gtc.proofs.item.string_end.Goals as goal

pub returns-then-s-first-clause-result_value : goal.returns-then-s-first-clause-result_value
returns-then-s-first-clause-result_value c = string_short _ _ c.if-s-first.true

pub returns-then-s-e-clause-result_value : goal.returns-then-s-e-clause-result_value
returns-then-s-e-clause-result_value c =
    let g = c.args in
    string_cut g.s.now g.p c.if-s-first.false _ c.byte.ensures c.if-s-e.true

pub returns-clause-result_value : goal.returns-clause-result_value
returns-clause-result_value c =
    let g = c.args in
    string_at g.s.now g.p c.if-s-first.false _ c.byte.ensures c.if-s-e.false
