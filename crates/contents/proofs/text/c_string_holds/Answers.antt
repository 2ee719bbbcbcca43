use mathlib.Core.Path.{◌∙◌, ap}
use mathlib.Core.Bool.{not}
use borrow.Author.Tests.{eq-eqb, ne_eqb}
use Rattle.contents.specs.Text.{is_cstring}
use Rattle.contents.proofs.text.Laws.{c_string_on}
use Rattle.contents.proofs.text.c_string_holds.Goals as goal

pub returns-then-last-eq0 : goal.returns-then-last-eq0
returns-then-last-eq0 c =
    let e = c.in-Some.ensures in
    ap not c.has_zero.ensures ∙ rw (eq-eqb _ 0 c.if-last-eq0.true) at (c_string_on _ _ _ e.cases.0)

pub returns-else-last-eq0 : goal.returns-else-last-eq0
returns-else-last-eq0 c =
    let e = c.in-Some.ensures in
    ne_eqb _ 0 c.if-last-eq0.false ∙ rw (ne_eqb _ 0 c.if-last-eq0.false) at (c_string_on _ _ _ e.cases.0)

pub returns-in-None : goal.returns-in-None
unfolding is_cstring
returns-in-None c =
    let e = c.in-None.ensures in
    rw e.cases
