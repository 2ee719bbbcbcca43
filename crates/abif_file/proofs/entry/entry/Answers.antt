use mathlib.Core.Path.{◌∙◌, sym, ap}
use mathlib.Core.Logic.{inl, inr}
use native.Mathlib.Omega.{arith}
use lib.ListN.{length-take}
use Rattle.std.proofs.lemmas.Result.{err_from_is_err_and}
use Rattle.reading.specs.Check.{ok}
use Rattle.abif_file.specs.Entry.{entry_reading}
use Rattle.abif.proofs.directory.Laws.{opened_at, after_refused}
use Rattle.abif_elements.proofs.element.Laws.{outside}
use Rattle.abif_file.proofs.entry.Laws.{entry_none, entry_there}
use Rattle.abif_file.proofs.entry.entry.Goals as goal
use Rattle.abif_file.proofs.entry.entry.Goals.{then-index-lt1-via-then-index-lt1, then-index-lt1-via-else-index-lt1+then-d-index}

pub returns-in_err-d : goal.returns-in_err-d
unfolding entry_reading
returns-in_err-d c =
    let p = err_from_is_err_and c.from_residual.result c.from_residual.ensures.1 in
    rw (p.1, p.2) (after_refused _ c.args.s.now _ (sym c.in_err-d.ensures))

pub returns-then-index-lt1 : goal.returns-then-index-lt1
returns-then-index-lt1 c =
    let g = c.args in
    entry_none g.s.now g.index _ _ (sym c.in_ok-d.ensures) (outside g.index _
    (elim c.then-index-lt1.branch [ then-index-lt1-via-then-index-lt1 w ↦ inl w.if-index-lt1.true | then-index-lt1-via-else-index-lt1+then-d-index w ↦ inr (w.if-index-lt1.false, w.if-d-index.true) ]))

pub slice_bounds-raw_entry-end : goal.slice_bounds-raw_entry-end
slice_bounds-raw_entry-end c =
    let w = opened_at c.args.s.now _ _ (sym c.in_ok-d.ensures) in
    simp length-take (omega arith)

pub raw_entry-requires : goal.raw_entry-requires
raw_entry-requires c =
    let w = opened_at c.args.s.now _ _ (sym c.in_ok-d.ensures) in
    simp length-take (omega arith)

pub returns : goal.returns
returns c =
    let g = c.args in
    ap ok c.raw_entry.ensures ∙ entry_there g.s.now g.index _ _ (sym c.in_ok-d.ensures) (omega arith) (omega arith)
