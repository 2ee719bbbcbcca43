use Rattle.std.proofs.lemmas.Result.{err_from_is_err_and}
use Rattle.sff.proofs.walk.Laws.{before_none, before_past, before_wrong, before_found}
use Rattle.sff.proofs.walk.SffFile.walk_to.Goals.{then-k-lt1-via-then-k-lt1, then-k-lt1-via-else-k-lt1+then-self-k}
use Rattle.sff.proofs.walk.SffFile.walk_to.Goals as goal

pub returns-then-k-lt1 : goal.returns-then-k-lt1
returns-then-k-lt1 c =
    elim c.then-k-lt1.branch [
      | then-k-lt1-via-then-k-lt1 w ↦ before_none _ _ _ w.if-k-lt1.true
      | then-k-lt1-via-else-k-lt1+then-self-k w ↦ before_past _ _ _ w.if-k-lt1.false w.if-self-k.true
    ]

pub returns-in_err-walk_first : goal.returns-in_err-walk_first
returns-in_err-walk_first c =
    let p = err_from_is_err_and c.from_residual.result c.from_residual.ensures.1 in
    rw (p.1, p.2) (before_wrong _ _ _ c.if-k-lt1.false c.if-self-k.false _ _ c.in_err-walk_first.ensures)

pub returns : goal.returns
returns c = before_found _ _ _ c.if-k-lt1.false c.if-self-k.false _ c.in_ok-walk_first.ensures
