use Rattle.std.proofs.lemmas.Result.{err_from_is_err_and}
use Rattle.reading.proofs.Tail.{refused_plain, verdict_refused, verdict_whole}
use Rattle.abif.specs.Judge.{judging, extent_of}
use Rattle.abif.proofs.judge.judge.Goals as goal

pub returns-in_err-x : goal.returns-in_err-x
returns-in_err-x c =
    let p = err_from_is_err_and c.from_residual.result c.from_residual.ensures.1 in
    rw (p.1, refused_plain _ _ p.2) (verdict_refused judging extent_of c.args.s.now _ _ c.in_err-x.ensures)

pub returns : goal.returns
returns c = rw c.new.ensures (verdict_whole judging extent_of c.args.s.now _ c.in_ok-x.ensures)
