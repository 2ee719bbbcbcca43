use mathlib.Core.Path.{◌∙◌, sym}
use Rattle.reading.specs.Part.{shown}
use Rattle.reading.proofs.Parts.{part_there}
use Rattle.gtc_records.proofs.transformation.Laws.{reading_within}
use Rattle.gtc_records.proofs.transformation.transformation_part.Goals as goal

pub returns-in-Ok : goal.returns-in-Ok
returns-in-Ok c =
    let g = c.args in
    let w = reading_within g.k g.s.now _ (sym c.in-Ok.ensures) in
    c.part.ensures ∙ part_there (shown g.s) _ _ w ∙ rw (← c.in-Ok.ensures)
