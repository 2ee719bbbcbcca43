use mathlib.Core.Path.{sym, ◌∙◌}
use native.Mathlib.Omega.{arith}
use lib.ListN.{length-take}
use Rattle.std.proofs.lemmas.Result.{err_from_is_err_and}
use Rattle.sff.proofs.read.Laws.{fields_fixed}
use Rattle.sff.proofs.lookup.Laws.{from_wrong, from_there, from_steps, from_contents}
use Rattle.sff.proofs.lookup.read_from.Goals as goal

pub slice_bounds-read_header_of-end : goal.slice_bounds-read_header_of-end
slice_bounds-read_header_of-end c =
    let g = c.args in
    let w = from_there g.flows g.p g.s.now _ (sym c.in_ok-end.ensures) in
    omega arith

pub slice_bounds-read_present-end : goal.slice_bounds-read_present-end
slice_bounds-read_present-end c =
    let g = c.args in
    let w = from_there g.flows g.p g.s.now _ (sym c.in_ok-end.ensures) in
    simp length-take (omega arith)

pub read_present-requires : goal.read_present-requires
read_present-requires c =
    let g = c.args in
    from_steps g.flows g.p g.s.now _ (sym c.in_ok-end.ensures) _ (c.read_header_of-d.ensures ∙ fields_fixed g.p g.s.now)

pub returns-in_err-end : goal.returns-in_err-end
returns-in_err-end c =
    let g = c.args in
    let p = err_from_is_err_and c.from_residual.result c.from_residual.ensures.1 in
    rw (p.1, p.2) (from_wrong g.flows g.p g.s.now _ c.in_err-end.ensures)

pub returns : goal.returns
returns c =
    let g = c.args in
    c.read_present.ensures g.s.now ∙ from_contents g.flows g.p g.s.now _ (sym c.in_ok-end.ensures) _ (c.read_header_of-d.ensures ∙ fields_fixed g.p g.s.now)
