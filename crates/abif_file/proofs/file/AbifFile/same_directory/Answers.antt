use mathlib.Core.Path.{sym}
use Rattle.std.proofs.lemmas.Result.{err_from_is_err_and}
use Rattle.abif.proofs.directory.Laws.{after_refused}
use Rattle.abif_file.specs.Opened.{same_directory}
use Rattle.abif_file.proofs.opened.Laws.{other_place, other_count, same_both}
use Rattle.abif_file.proofs.file.AbifFile.same_directory.Goals as goal
use Rattle.abif_file.proofs.file.AbifFile.same_directory.Goals.{then-self-d-via-then-self-d, then-self-d-via-else-self-d+then-self-d-2}

pub returns-in_err-d : goal.returns-in_err-d
unfolding same_directory
returns-in_err-d c =
    let p = err_from_is_err_and c.from_residual.result c.from_residual.ensures.1 in
    rw (p.1, p.2) (after_refused _ c.args.self.bytes.now _ (sym c.in_err-d.ensures))

pub returns-then-self-d : goal.returns-then-self-d
returns-then-self-d c =
    let f = c.args.self in
    let o = sym c.in_ok-d.ensures in
    elim c.then-self-d.branch [ then-self-d-via-then-self-d w ↦ other_place f.bytes.now f.place f.count _ _ o w.if-self-d.true | then-self-d-via-else-self-d+then-self-d-2 w ↦ other_count f.bytes.now f.place f.count _ _ o w.if-self-d.false w.if-self-d-2.true ]

pub returns : goal.returns
returns c =
    let f = c.args.self in
    same_both f.bytes.now f.place f.count _ _ (sym c.in_ok-d.ensures) c.if-self-d.false c.if-self-d-2.false
