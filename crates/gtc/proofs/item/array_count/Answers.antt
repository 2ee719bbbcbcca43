use Rattle.reading.specs.Check.{run}
use Rattle.reading.proofs.Tests.{tests}
use Rattle.gtc.specs.Item.{array_count}
use Rattle.gtc.proofs.item.Laws.{count_negative, count_at}
use mathlib.Core.Path.{◌∙◌, ap}
use Rattle.reading.specs.declared.check.Field.{Field}
use Rattle.reading.specs.declared.check.Rule.TheVariants.{NotNegative}
use Rattle.reading.specs.Check.{failed}
use Rattle.gtc.proofs.item.array_count.Goals as goal

pub returns-then-s-first : goal.returns-then-s-first
unfolding array_count run
returns-then-s-first c = search tests

pub returns-then-n-ge-NEGATIVE : goal.returns-then-n-ge-NEGATIVE
returns-then-n-ge-NEGATIVE c =
    let g = c.args in
    ap (λ (f : Field). failed (record { field = f; rule = NotNegative; number = 9 }) 0) c.count_field.ensures ∙ count_negative g.s.now g.offset c.if-s-first.false _ c.le32-n.ensures c.if-n-ge-NEGATIVE.true

pub returns : goal.returns
returns c =
    let g = c.args in
    count_at g.s.now g.offset c.if-s-first.false _ c.le32-n.ensures c.if-n-ge-NEGATIVE.false
