use mathlib.Core.Path.{◌∙◌, ap}
use native.Mathlib.Omega.{arith}
use Rattle.reading.specs.Number.{bits}
use Rattle.reading.specs.declared.part.Span.{Span}
use Rattle.reading.specs.Part.{shown, handed_back}
use Rattle.reading.specs.Check.{Answer}
use Rattle.reading.proofs.Parts.{part_there}
use Rattle.abif_elements.specs.Text.{text_reading}
use Rattle.abif_file.proofs.opened.Laws.{later_refused, later_same}
use Rattle.abif_file.proofs.file.AbifFile.text_part.Goals as goal

pub returns-in-Err : goal.returns-in-Err
returns-in-Err c =
    let g = c.args in
    let s = g.self.bytes in
    c.part.ensures ∙ part_there (shown s) 0 0 (omega arith) ∙ ap (λ (a : Answer Span). handed_back (shown s) (a)) (later_refused g.self.place g.self.count (text_reading g.tag.name (bits 4 g.tag.number)) s.now _ c.in-Err.ensures)

pub returns-in-Ok : goal.returns-in-Ok
returns-in-Ok c =
    let g = c.args in
    let s = g.self.bytes in
    c.text_part.ensures ∙ ap (λ (a : Answer Span). handed_back (shown s) (a)) (later_same g.self.place g.self.count (text_reading g.tag.name (bits 4 g.tag.number)) s.now c.in-Ok.ensures)
