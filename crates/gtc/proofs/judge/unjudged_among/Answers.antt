use mathlib.Core.Path.{sym, ◌∙◌, ap}
use native.Mathlib.Omega.{arith}
use native.Mathlib.Nat.{add-zero}
use Rattle.reading.proofs.Loop.{left_next, left_end}
use Rattle.gtc.specs.declared.entry.Entry.{Entry}
use Rattle.gtc.specs.Entry.{entry_of}
use Rattle.gtc.specs.Judge.{unjudged_among}
use Rattle.gtc.proofs.judge.Laws.{listed_on, unlisted_on}
use Rattle.gtc.proofs.judge.unjudged_among.Goals as goal
use Rattle.gtc.proofs.judge.unjudged_among.Goals.{then-not-is_listed, else-not-is_listed}

pub loop-i-preserved : goal.loop-i-preserved
unfolding entry_of
loop-i-preserved c =
    let h = c.args.t.up_to.now in
    let l = c.loop-i.invariant in
    let id = ap (λ (d : Entry). d.id) c.entry_at.ensures in
    elim c.if-not-is_listed.branch [
      | then-not-is_listed w ↦ (omega arith, left_next _ _ _ _ l.1 _ (λ m. unlisted_on h c.loop-i.count _ c.loop-i.i m (rw id at (w.if-not-is_listed.ensures)) w.count-is))
      | else-not-is_listed w ↦ (omega arith, left_next _ _ _ _ l.1 _ (λ m. listed_on h c.loop-i.count _ c.loop-i.i m (rw id at (w.if-not-is_listed.ensures)) w.count-is))
    ]

pub returns : goal.returns
unfolding unjudged_among
returns c = sym (add-zero _) ∙ left_end _ _ _ _ c.loop-i.invariant.1 (omega arith) (omega arith)
