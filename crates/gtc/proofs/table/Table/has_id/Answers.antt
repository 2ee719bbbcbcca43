use mathlib.Core.Path.{◌∙◌}
use Rattle.reading.proofs.Width.{le_part}
use Rattle.gtc.specs.Entry.{has_id}
use mathlib.Core.Path.{◌∙◌, ap}
use Rattle.reading.specs.Number.{le}
use Rattle.gtc.proofs.table.Table.has_id.Goals as goal

pub returns : goal.returns
unfolding has_id
returns c =
    let g = c.args in
    let e = c.entry_place-start in
    let x = c.le16.ensures ∙ le_part 2 e.result g.self.up_to.now ∙ ap (le 2 g.self.up_to.now) e.ensures in
    rw (← x)
