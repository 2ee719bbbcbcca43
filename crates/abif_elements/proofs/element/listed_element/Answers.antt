use mathlib.Core.Path.{◌≡◌, ◌∙◌}
use mathlib.Core.Logic.{inl, inr}
use mathlib.Core.Bool.{true}
use native.Mathlib.Omega.{arith}
use lib.ListN.{length-take}
use borrow.Author.Tests.{le-leb}
use Rattle.reading.specs.Choice.{is_number_of}
use Rattle.abif_elements.proofs.element.Laws.{inside, outside, of_none, of_value}
use Rattle.abif_elements.proofs.element.listed_element.Goals as goal
use Rattle.abif_elements.proofs.element.listed_element.Goals.{then-index-lt1-via-then-index-lt1, then-index-lt1-via-else-index-lt1+then-q-index}

pub returns-then-index-lt1 : goal.returns-then-index-lt1
returns-then-index-lt1 c = let g = c.args in
    of_none g.s.now g.q g.index g.w c.requires.1 (outside g.index g.q.count
    (elim c.then-index-lt1.branch [ then-index-lt1-via-then-index-lt1 w ↦ inl w.if-index-lt1.true | then-index-lt1-via-else-index-lt1+then-q-index w ↦ inr (w.if-index-lt1.false, w.if-q-index.true) ]))

pub value_at-requires : goal.value_at-requires
value_at-requires c = let g = c.args in
    let e = c.requires.0.sizes g.w c.requires.1 in
    let i = inside g.w g.index g.q.count (omega arith) (omega arith) in
    rw c.requires.1 (simp length-take (omega arith))

pub returns : goal.returns
returns c = let g = c.args in
    let f : is_number_of g.index g.q.count ≡ true = rw (le-leb 1 g.index (omega arith), le-leb g.index g.q.count (omega arith)) in
    c.value_at.ensures g.s.now ∙ of_value g.s.now g.q g.index g.w c.requires.1 _ c.element_place-p.ensures.0 f (omega arith)
