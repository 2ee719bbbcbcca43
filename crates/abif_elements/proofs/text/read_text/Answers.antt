use mathlib.Core.Path.{◌∙◌, sym}
use Rattle.reading.specs.Number.{bits}
use Rattle.std.proofs.lemmas.Result.{err_from_is_err_and}
use Rattle.reading.proofs.Results.{answer_refused, answer_ok}
use Rattle.abif.specs.Lookup.{looking_up}
use Rattle.abif.proofs.lookup.Laws.{found_checked}
use Rattle.abif_elements.specs.Text.{text_of, text_reading}
use Rattle.abif_elements.proofs.text.read_text.Goals as goal

pub text_of-requires : goal.text_of-requires
text_of-requires c = let g = c.args in
    (found_checked g.s.now g.tag.name (bits 4 g.tag.number) _ (sym c.in_ok-q.ensures)).within

pub returns-in_err-q : goal.returns-in_err-q
unfolding text_reading
returns-in_err-q c =
    let g = c.args in
    let p = err_from_is_err_and c.from_residual.result c.from_residual.ensures.1 in
    rw (p.1, p.2) (answer_refused (looking_up g.tag.name (bits 4 g.tag.number)) g.s.now text_of _ 0 c.in_err-q.ensures)

pub returns : goal.returns
unfolding text_reading
returns c =
    let g = c.args in
    c.text_of.ensures ∙ answer_ok (looking_up g.tag.name (bits 4 g.tag.number)) g.s.now text_of _ c.in_ok-q.ensures
