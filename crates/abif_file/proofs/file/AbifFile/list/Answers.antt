use mathlib.Core.Path.{◌∙◌}
use lib.ListN.{length}
use Rattle.std.proofs.lemmas.Result.{err_from_is_err_and}
use Rattle.abif_file.specs.List.{listing}
use Rattle.abif_file.proofs.opened.Laws.{later_refused, later_same}
use Rattle.abif_file.proofs.file.AbifFile.list.Goals as goal

pub returns-in_err-same_directory : goal.returns-in_err-same_directory
returns-in_err-same_directory c =
    let g = c.args in
    let p = err_from_is_err_and c.from_residual.result c.from_residual.ensures.1 in
    let e = later_refused g.self.place g.self.count (listing (length g.out.now)) g.self.bytes.now _ c.in_err-same_directory.ensures in
    (rw (p.1, p.2, ← e), rw (← e))

pub returns : goal.returns
returns c =
    let g = c.args in
    let e = later_same g.self.place g.self.count (listing (length g.out.now)) g.self.bytes.now c.in_ok-same_directory.ensures in
    (c.list.ensures.0 ∙ rw e, c.list.ensures.1 ∙ rw e)
