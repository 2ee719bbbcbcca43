use mathlib.Core.Path.{◌≡◌}
use mathlib.Core.Logic.{inl, inr}
use mathlib.Core.Bool.{false}
use Rattle.abif.specs.Entry.{type_of}
use Rattle.abif_elements.specs.Element.{is_listed}
use Rattle.abif_elements.proofs.element.Laws.{of_raw}
use Rattle.abif_elements.proofs.element.element_of.Goals as goal

pub returns-in-Raw : goal.returns-in-Raw
returns-in-Raw c =
    let g = c.args in
    let f : is_listed (type_of g.q.code) ≡ false = rw (← c.type_of.ensures) (elim c.in-Raw.is [ inl a ↦ rw a | inr b ↦ rw b ]) in
    of_raw g.s.now g.q g.index f
