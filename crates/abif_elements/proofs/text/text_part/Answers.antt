use mathlib.Core.Path.{◌∙◌, sym}
use Rattle.reading.specs.Number.{bits}
use Rattle.reading.specs.Part.{shown}
use Rattle.reading.proofs.Parts.{part_there}
use Rattle.abif_elements.proofs.text.Laws.{text_fits}
use Rattle.abif_elements.proofs.text.text_part.Goals as goal

pub returns-in-Ok : goal.returns-in-Ok
returns-in-Ok c =
    let g = c.args in
    let w = text_fits g.s.now g.tag.name (bits 4 g.tag.number) _ (sym c.in-Ok.ensures) in
    c.part.ensures ∙ part_there (shown g.s) _ _ w ∙ rw (← c.in-Ok.ensures)
