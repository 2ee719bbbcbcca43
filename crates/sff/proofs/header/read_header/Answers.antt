use Rattle.std.proofs.lemmas.Result.{err_from_is_err_and}
use Rattle.sff.proofs.header.Laws.{header_short, header_bad, header_cut, header_good}
use borrow.Author.Rules.{rules}
use Rattle.sff.proofs.header.read_header.Goals as goal

pub returns-then-s-lt-FRONT_LENGTH : goal.returns-then-s-lt-FRONT_LENGTH
returns-then-s-lt-FRONT_LENGTH c = header_short _ (search rules)

pub returns-in_err-front_tests : goal.returns-in_err-front_tests
returns-in_err-front_tests c =
    let s = c.args.s.now in
    let e = c.in_err-front_tests.ensures s in
    let p = err_from_is_err_and c.from_residual.result c.from_residual.ensures.1 in
    rw (p.1, p.2) (header_bad s c.if-s-lt-FRONT_LENGTH.false _ (rw (← c.header_of-d.ensures, ← c.byte-code.ensures, ← c.be32-version.ensures, ← c.be32-mark.ensures) e))

pub returns-then-s-end : goal.returns-then-s-end
returns-then-s-end c =
    let s = c.args.s.now in
    let e = c.in_ok-front_tests.ensures s in
    rw c.header_of-d.ensures (header_cut s c.if-s-lt-FRONT_LENGTH.false (rw (← c.header_of-d.ensures, ← c.byte-code.ensures, ← c.be32-version.ensures, ← c.be32-mark.ensures) e) (rw (← c.header_of-d.ensures) (search rules)))

pub returns : goal.returns
returns c =
    let s = c.args.s.now in
    let e = c.in_ok-front_tests.ensures s in
    rw c.header_of-d.ensures (header_good s c.if-s-lt-FRONT_LENGTH.false (rw (← c.header_of-d.ensures, ← c.byte-code.ensures, ← c.be32-version.ensures, ← c.be32-mark.ensures) e) (rw (← c.header_of-d.ensures) (search rules)))
