use mathlib.Core.Path.{sym}
use borrow.Author.Rules.{rules}
use Rattle.std.proofs.lemmas.Result.{err_from_is_err_and}
use Rattle.abif.proofs.directory.Laws.{open_short, open_header, open_bounds, open_cut, open_at}
use Rattle.abif.proofs.directory.read_header.Goals as goal

pub returns-then-s-lt128 : goal.returns-then-s-lt128
returns-then-s-lt128 c = open_short _ (search rules)

pub returns-in_err-header_tests : goal.returns-in_err-header_tests
returns-in_err-header_tests c =
    let s = c.args.s.now in
    let p = err_from_is_err_and c.from_residual.result c.from_residual.ensures.1 in
    rw (p.1, p.2) (open_header s (search rules) _ (rw (← c.be32-mark.ensures, ← c.be16-version.ensures, ← c.entry_at-d.ensures.0) (c.in_err-header_tests.ensures s)))

pub returns-in_err-bounds_tests : goal.returns-in_err-bounds_tests
returns-in_err-bounds_tests c =
    let s = c.args.s.now in
    let p = err_from_is_err_and c.from_residual-in_err-bounds_tests.result c.from_residual-in_err-bounds_tests.ensures.1 in
    rw (p.1, p.2) (open_bounds s (search rules) _ (rw (← c.be32-mark.ensures, ← c.be16-version.ensures, ← c.entry_at-d.ensures.0) (sym (c.in_ok-header_tests.ensures s))) (rw (← c.entry_at-d.ensures.0) (sym (c.in_err-bounds_tests.ensures s))))

pub returns-then-s-end : goal.returns-then-s-end
returns-then-s-end c =
    let s = c.args.s.now in
    rw c.entry_at-d.ensures.0 (open_cut s (search rules) (rw (← c.be32-mark.ensures, ← c.be16-version.ensures, ← c.entry_at-d.ensures.0) (sym (c.in_ok-header_tests.ensures s))) (rw (← c.entry_at-d.ensures.0) (sym (c.in_ok-bounds_tests.ensures s))) (rw (← c.entry_at-d.ensures.0) (search rules)))

pub returns : goal.returns
returns c =
    let s = c.args.s.now in
    rw c.entry_at-d.ensures.0 (open_at s (search rules) (rw (← c.be32-mark.ensures, ← c.be16-version.ensures, ← c.entry_at-d.ensures.0) (sym (c.in_ok-header_tests.ensures s))) (rw (← c.entry_at-d.ensures.0) (sym (c.in_ok-bounds_tests.ensures s))) (rw (← c.entry_at-d.ensures.0) (search rules)))
