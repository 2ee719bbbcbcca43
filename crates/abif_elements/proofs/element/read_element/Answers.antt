use mathlib.Core.Path.{◌∙◌, sym}
use Rattle.reading.specs.Number.{bits}
use Rattle.std.proofs.lemmas.Result.{err_from_is_err_and}
use Rattle.reading.proofs.Results.{answer_refused, answer_ok}
use Rattle.abif.specs.Lookup.{looking_up}
use Rattle.abif_elements.specs.Element.{element_of, element_reading}
use Rattle.abif.proofs.lookup.Laws.{found_checked}
use Rattle.abif_elements.proofs.element.read_element.Goals as goal

pub element_of-requires : goal.element_of-requires
element_of-requires c = let g = c.args in
    found_checked g.s.now g.tag.name (bits 4 g.tag.number) _ (sym c.in_ok-q.ensures)

pub returns-in_err-q : goal.returns-in_err-q
unfolding element_reading
returns-in_err-q c =
    let g = c.args in
    let p = err_from_is_err_and c.from_residual.result c.from_residual.ensures.1 in
    rw (p.1, p.2) (answer_refused (looking_up g.tag.name (bits 4 g.tag.number)) g.s.now (λ q. element_of q g.index) _ 0 c.in_err-q.ensures)

pub returns : goal.returns
unfolding element_reading
returns c =
    let g = c.args in
    c.element_of.ensures ∙ answer_ok (looking_up g.tag.name (bits 4 g.tag.number)) g.s.now (λ q. element_of q g.index) _ c.in_ok-q.ensures
