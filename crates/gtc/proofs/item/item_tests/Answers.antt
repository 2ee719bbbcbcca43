use mathlib.Core.Path.{sym, ◌∙◌, ap}
use Rattle.reading.specs.Check.{run}
use Rattle.reading.proofs.Steps.{run_done}
use Rattle.gtc.specs.declared.item.Stored.{Stored}
use Rattle.gtc.specs.Item.{item_check}
use Rattle.gtc.proofs.item.item_tests.Goals as goal

pub returns-in-Value : goal.returns-in-Value
unfolding item_check
returns-in-Value c =
    let g = c.args in
    sym (run_done _ g.s.now) ∙ ap (λ (v : Stored). run (item_check v g.t.up_to.now g.t.count g.d) g.s.now) (sym c.in-Value.is)

pub returns-in-Shaped : goal.returns-in-Shaped
unfolding item_check
returns-in-Shaped c =
    let g = c.args in
    c.shaped_tests.ensures ∙ ap (λ (v : Stored). run (item_check v g.t.up_to.now g.t.count g.d) g.s.now) (sym c.in-Shaped.is)
