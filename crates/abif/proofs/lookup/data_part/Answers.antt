use mathlib.Core.Path.{◌∙◌, sym}
use Rattle.reading.specs.Number.{bits}
use Rattle.reading.specs.Part.{shown}
use Rattle.reading.proofs.Parts.{part_there}
use Rattle.abif.proofs.lookup.Laws.{found_checked}
use Rattle.abif.proofs.lookup.data_part.Goals as goal

pub returns-in-Ok : goal.returns-in-Ok
returns-in-Ok c =
    let g = c.args in
    let w = found_checked g.s.now g.tag.name (bits 4 g.tag.number) _ (sym c.in-Ok.ensures) in
    c.part.ensures ∙ part_there (shown g.s) _ _ w.within ∙ rw (← c.in-Ok.ensures)
