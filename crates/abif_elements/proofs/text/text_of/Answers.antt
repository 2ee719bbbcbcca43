use mathlib.Core.Path.{◌∙◌}
use native.Mathlib.Omega.{arith}
use Rattle.abif_elements.proofs.text.Laws.{text_other, text_p, text_c}
use Rattle.abif_elements.proofs.text.text_of.Goals as goal

pub returns-in-18 : goal.returns-in-18
returns-in-18 c =
    let g = c.args in
    c.p_string.ensures g.s.now ∙ text_p g.q g.s.now (omega arith) c.in-18.is

pub returns-in-19 : goal.returns-in-19
returns-in-19 c =
    let g = c.args in
    c.c_string.ensures g.s.now ∙ text_c g.q g.s.now (omega arith) c.in-19.is

pub returns-in_default : goal.returns-in_default
returns-in_default c =
    let g = c.args in
    text_other g.q g.s.now (λ e. omega arith) (λ e. omega arith)
