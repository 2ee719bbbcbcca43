use Rattle.reading.proofs.Width.{byte_le}
use Rattle.gtc.proofs.table.Laws.{table_short, table_mark, table_count, table_cut, table_whole}
use Prim.Native.Nat.{ℕ}
use mathlib.Core.Path.{◌≡◌, sym, ◌∙◌, ap}
use Rattle.std.proofs.lemmas.Result.{err_from_is_err_and}
use Rattle.reading.specs.Check.{passed, short}
use Rattle.gtc.specs.Table.{header_size, table_end}
use Rattle.gtc.proofs.table.Laws.{entries, identified, numbered}
use Rattle.gtc.proofs.table.Table.read.Goals as goal

pub returns-then-s-lt-HEADER_SIZE : goal.returns-then-s-lt-HEADER_SIZE
returns-then-s-lt-HEADER_SIZE c = table_short _ c.if-s-lt-HEADER_SIZE.true

pub returns-in_err-mark_tests : goal.returns-in_err-mark_tests
returns-in_err-mark_tests c =
    let s = c.args.s.now in
    let p = err_from_is_err_and c.from_residual.result c.from_residual.ensures.1 in
    rw (p.1, p.2) (table_mark s c.if-s-lt-HEADER_SIZE.false _ (rw (← c.mark_of-mark.ensures, ← byte_le, ← c.byte-version.ensures) (sym (c.in_err-mark_tests.ensures s))))

pub returns-in_err-count_tests : goal.returns-in_err-count_tests
returns-in_err-count_tests c =
    let s = c.args.s.now in
    let p = err_from_is_err_and c.from_residual-in_err-count_tests.result c.from_residual-in_err-count_tests.ensures.1 in
    let m : identified s ≡ passed tt = rw (← c.mark_of-mark.ensures, ← byte_le, ← c.byte-version.ensures) (sym (c.in_ok-mark_tests.ensures s)) in
    rw (p.1, p.2) (table_count s c.if-s-lt-HEADER_SIZE.false m _ (rw (← c.le32-count.ensures) (sym (c.in_err-count_tests.ensures.result_value s))))

pub returns-then-s-end : goal.returns-then-s-end
returns-then-s-end c =
    let s = c.args.s.now in
    let e : c.table_end-end.result ≡ table_end (entries s) = c.table_end-end.ensures ∙ ap table_end c.le32-count.ensures in
    let m : identified s ≡ passed tt = rw (← c.mark_of-mark.ensures, ← byte_le, ← c.byte-version.ensures) (sym (c.in_ok-mark_tests.ensures s)) in
    let n : numbered s ≡ passed tt = rw (← c.le32-count.ensures) (sym (c.in_ok-count_tests.ensures.result_value s)) in
    ap (λ (x : ℕ). short (record { start = header_size; end = x }) 0) e ∙ table_cut s c.if-s-lt-HEADER_SIZE.false m n (rw (← e) c.if-s-end.true)

pub returns : goal.returns
returns c =
    let s = c.args.s.now in
    let e : c.table_end-end.result ≡ table_end (entries s) = c.table_end-end.ensures ∙ ap table_end c.le32-count.ensures in
    let m : identified s ≡ passed tt = rw (← c.mark_of-mark.ensures, ← byte_le, ← c.byte-version.ensures) (sym (c.in_ok-mark_tests.ensures s)) in
    let n : numbered s ≡ passed tt = rw (← c.le32-count.ensures) (sym (c.in_ok-count_tests.ensures.result_value s)) in
    table_whole s c.if-s-lt-HEADER_SIZE.false m n _ _ c.le32-count.ensures e c.if-s-end.false
