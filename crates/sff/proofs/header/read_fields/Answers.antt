use Rattle.std.proofs.lemmas.Result.{err_from_is_err_and}
use Rattle.reading.proofs.Results.{answer_wrong, answer_passed}
use Rattle.sff.specs.Header.{header}
use Rattle.sff.proofs.header.read_fields.Goals as goal

pub returns-in_err-read_header : goal.returns-in_err-read_header
returns-in_err-read_header c =
    let p = err_from_is_err_and c.from_residual.result c.from_residual.ensures.1 in
    rw (p.1, p.2) (answer_wrong header c.args.s.now _ 0 c.in_err-read_header.ensures)

pub returns : goal.returns
returns c = answer_passed header c.args.s.now _ c.in_ok-read_header.ensures
