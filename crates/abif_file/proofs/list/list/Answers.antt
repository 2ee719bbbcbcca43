use mathlib.Core.Path.{◌≡◌, ◌∙◌, sym, ap}
use native.Mathlib.Omega.{arith}
use lib.ListN.{length, take, length-take}
use Rattle.std.proofs.lemmas.Result.{err_from_is_err_and}
use Rattle.abif.proofs.directory.Laws.{opened_at}
use Rattle.abif_file.specs.List.{raw_entries}
use Rattle.abif_file.proofs.list.Laws.{list_unopened, list_full}
use Rattle.abif_file.proofs.list.list.Goals as goal

pub returns-in_err-d : goal.returns-in_err-d
returns-in_err-d c =
    let p = err_from_is_err_and c.from_residual.result c.from_residual.ensures.1 in
    let e = list_unopened (length c.args.out.now) c.args.s.now _ (sym c.in_err-d.ensures) in
    (rw (p.1, p.2, e), rw e)

pub slice_bounds-fill-end : goal.slice_bounds-fill-end
slice_bounds-fill-end c =
    let w = opened_at c.args.s.now _ _ (sym c.in_ok-d.ensures) in
    simp length-take (omega arith)

pub fill-requires : goal.fill-requires
fill-requires c =
    let w = opened_at c.args.s.now _ _ (sym c.in_ok-d.ensures) in
    let n : length (take c.in_ok-d.d.count c.args.out.now) ≡ c.in_ok-d.d.count = simp length-take (omega arith) in
    rw n (simp length-take (omega arith))

pub returns : goal.returns
returns c =
    let g = c.args in
    let n : length (take c.in_ok-d.d.count g.out.now) ≡ c.in_ok-d.d.count = simp length-take (omega arith) in
    let written = c.fill.ensures ∙ ap (raw_entries _ _) n in
    list_full (length g.out.now) g.s.now _ _ (sym c.in_ok-d.ensures) (omega arith) g.out.now _ (rw written)
