use Prim.Native.Nat.{ℕ, ◌+◌, ◌-◌, ◌*◌, ◌/◌}
use mathlib.Core.List.{◌++◌}
use mathlib.Core.Path.{◌≡◌, sym, ◌∙◌, ap}
use native.Mathlib.Omega.{arith}
use lib.ListN.{length, drop}
use Rattle.std.proofs.lemmas.Result.{err_from_is_err_and}
use Rattle.reading.specs.Bulk.{records}
use Rattle.sff.specs.Reads.{reads_at}
use Rattle.sff_fields.specs.Parts.{read_numbers}
use Rattle.sff.proofs.reads.Laws.{passage, first_wrong, then_wrong, over, reads_answered, reads_counted, records_length}
use Rattle.sff.proofs.walk.Laws.{past_within, walk_any}
use Rattle.sff.proofs.walk.Split.{past_parts, parts_wrong}
use Rattle.sff.proofs.reads.reads_from.Goals as goal

pub walk-requires : goal.walk-requires
walk-requires c = (past_within c.args.file.header c.args.file.bytes.now c.args.i 0 _ _ c.args.file.present (sym c.in_ok-b.ensures), omega arith)

pub walk-requires-2 : goal.walk-requires-2
walk-requires-2 c = let g = c.args in
    (past_within g.file.header g.file.bytes.now (g.n / 2) g.i _ _ (past_within g.file.header g.file.bytes.now g.i 0 _ _ c.args.file.present (sym c.in_ok-b.ensures)) (sym c.in_ok-c.ensures), omega arith)

pub put_halves-requires : goal.put_halves-requires
put_halves-requires c = let g = c.args in
    let k = sym c.in_ok-c.ensures in
    let w = past_within g.file.header g.file.bytes.now g.i 0 _ _ c.args.file.present (sym c.in_ok-b.ensures) in
    let p = passage g.file.header (g.n / 2) g.i _ g.file.bytes.now _ k in
    let q = passage g.file.header (g.n - g.n / 2) (g.i + g.n / 2) _ g.file.bytes.now _ (sym c.in_ok-walk.ensures) in
    (w, past_within g.file.header g.file.bytes.now (g.n / 2) g.i _ _ w k, omega arith, c.requires.1, (p.0, walk_any g.file.header g.file.bytes.now (g.n / 2) g.i 0 _ p.0 p.1, p.2), (q.0, walk_any g.file.header g.file.bytes.now (g.n - g.n / 2) (g.i + g.n / 2) 0 _ q.0 q.1))

pub returns-in_err-b : goal.returns-in_err-b
returns-in_err-b c =
    let g = c.args in
    let p = err_from_is_err_and c.from_residual.result c.from_residual.ensures.1 in
    let e = first_wrong g.file.header g.n g.i g.file.bytes.now _ _ c.in_err-b.ensures in
    record {
      result_value = rw (p.1, p.2, ← e);
      out_after = rw (← e);
    }

pub returns-in_err-c : goal.returns-in_err-c
returns-in_err-c c =
    let g = c.args in
    let p = err_from_is_err_and c.from_residual-in_err-c.result c.from_residual-in_err-c.ensures.1 in
    let e = then_wrong g.file.header g.n g.i g.file.bytes.now _ (sym c.in_ok-b.ensures) _ _ (parts_wrong g.file.header g.file.bytes.now (g.n / 2) g.n g.i _ (omega arith) _ _ c.in_err-c.ensures) in
    record {
      result_value = rw (p.1, p.2, ← e);
      out_after = rw (← e);
    }

pub returns-in_err-walk : goal.returns-in_err-walk
returns-in_err-walk c =
    let g = c.args in
    let p = err_from_is_err_and c.from_residual-in_err-walk.result c.from_residual-in_err-walk.ensures.1 in
    let k = past_parts g.file.header g.file.bytes.now (g.n / 2) g.n g.i _ (omega arith) _ (sym c.in_ok-c.ensures) in
    let e = then_wrong g.file.header g.n g.i g.file.bytes.now _ (sym c.in_ok-b.ensures) _ _ (c.in_err-walk.ensures ∙ sym k) in
    record {
      result_value = rw (p.1, p.2, ← e);
      out_after = rw (← e);
    }

pub returns : goal.returns
returns c =
    let g = c.args in
    let h = sym c.in_ok-b.ensures in
    let k = past_parts g.file.header g.file.bytes.now (g.n / 2) g.n g.i _ (omega arith) _ (sym c.in_ok-c.ensures) ∙ sym c.in_ok-walk.ensures in
    let w = over g.file.header g.n g.i g.file.bytes.now _ h _ k c.args.file.present in
    let e = reads_answered g.file.header g.n g.i g.file.bytes.now _ h _ k c.args.file.present in
    let m = reads_counted g.file.header g.n g.i g.file.bytes.now _ h _ k c.args.file.present in
    let l = records_length (reads_at g.file.header.flows g.file.bytes.now w.0.starts) in
    let t : length (records 17 read_numbers (reads_at g.file.header.flows g.file.bytes.now w.0.starts)) ≡ 17 * g.n = omega arith in
    record {
      result_value = rw (e, m);
      out_after = rw e (c.put_halves.ensures w.0 w.1 ∙ ap (λ (i : ℕ). records 17 read_numbers (reads_at g.file.header.flows g.file.bytes.now w.0.starts) ++ drop i g.out.now) (sym t));
    }
