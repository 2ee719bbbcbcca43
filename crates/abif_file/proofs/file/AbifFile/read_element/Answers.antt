use mathlib.Core.Path.{◌∙◌}
use Rattle.reading.specs.Number.{bits}
use Rattle.std.proofs.lemmas.Result.{err_from_is_err_and}
use Rattle.abif_elements.specs.Element.{element_reading}
use Rattle.abif_file.proofs.opened.Laws.{later_refused, later_same}
use Rattle.abif_file.proofs.file.AbifFile.read_element.Goals as goal

pub returns-in_err-same_directory : goal.returns-in_err-same_directory
returns-in_err-same_directory c =
    let g = c.args in
    let p = err_from_is_err_and c.from_residual.result c.from_residual.ensures.1 in
    rw (p.1, p.2) (later_refused g.self.place g.self.count (element_reading g.tag.name (bits 4 g.tag.number) g.index) g.self.bytes.now _ c.in_err-same_directory.ensures)

pub returns : goal.returns
returns c =
    let g = c.args in
    c.read_element.ensures ∙ later_same g.self.place g.self.count (element_reading g.tag.name (bits 4 g.tag.number) g.index) g.self.bytes.now c.in_ok-same_directory.ensures
