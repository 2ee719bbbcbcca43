use mathlib.Core.Path.{sym, ◌∙◌}
use Rattle.reading.proofs.Steps.{run_done}
use Rattle.gtc.specs.Judge.{judge_as}
use Rattle.gtc.proofs.judge.Laws.{entry_as}
use Rattle.gtc.proofs.judge.judge_entry.Goals as goal

pub returns-in-Some : goal.returns-in-Some
returns-in-Some c =
    let g = c.args in
    c.judge_listed.ensures ∙ entry_as g.s.now g.t.up_to.now g.t.count g.i _ c.entry_at-d.ensures _ (sym c.in-Some.is ∙ c.listing_of.ensures)

pub returns-in-None : goal.returns-in-None
unfolding judge_as
returns-in-None c =
    let g = c.args in
    sym (run_done 0 g.s.now) ∙ entry_as g.s.now g.t.up_to.now g.t.count g.i _ c.entry_at-d.ensures _ (sym c.in-None.is ∙ c.listing_of.ensures)
