use Prim.Native.Nat.{ℕ, ◌+◌, ◌*◌}
use mathlib.Core.List.{List, ◌++◌}
use mathlib.Core.Path.{◌≡◌, sym, ◌∙◌, ap}
use native.Mathlib.Omega.{arith}
use lib.ListN.{drop}
use Rattle.reading.proofs.Fill.{lanes_next, lanes_end}
use Rattle.reading.proofs.Loop.{left_next, left_end}
use Rattle.reading.specs.Bulk.{record_of, records}
use Rattle.reading.specs.Answers.{answer_of}
use Rattle.sff_fields.proofs.record.Laws.{record_wide, two_written, record_told}
use Rattle.sff.specs.Reads.{reads_at}
use Rattle.sff_fields.specs.Parts.{read_numbers}
use Rattle.sff.proofs.reads.Laws.{along, along_is, farther_next, farther_end, farther_is, passes_first, passes_next, numbers_next, numbers_none}
use Rattle.sff.proofs.walk.Laws.{next_passed_within, next_passed_start}
use Rattle.sff.proofs.reads.put_pairs.Goals as goal

pub sound_read-one-requires : goal.sound_read-one-requires
sound_read-one-requires c = let l = c.loop-i in
    let g = c.args in
    (l.invariant.2, passes_first g.file.header g.file.bytes.now g.n l.i l.here (omega arith) l.invariant.4)

pub sound_read-other-requires : goal.sound_read-other-requires
sound_read-other-requires c = let l = c.loop-i in
    let g = c.args in
    (l.invariant.3, passes_first g.file.header g.file.bytes.now g.n l.i l.there (omega arith) l.invariant.5)

pub read_from-requires : goal.read_from-requires
read_from-requires c = let l = c.loop-i in
    let g = c.args in
    next_passed_start g.file.header 0 l.here g.file.bytes.now _ l.invariant.2 c.sound_read-one.ensures

pub read_from-requires-in-loop-i : goal.read_from-requires-in-loop-i
read_from-requires-in-loop-i c = let l = c.loop-i in
    let g = c.args in
    next_passed_start g.file.header 0 l.there g.file.bytes.now _ l.invariant.3 c.sound_read-other.ensures

pub loop-i-preserved : goal.loop-i-preserved
loop-i-preserved c = let l = c.loop-i in
    let g = c.args in
    let o = c.sound_read-one.ensures in
    let q = c.sound_read-other.ensures in
    let r = c.read_from.ensures in
    let t = c.read_from-in-loop-i.ensures in
    let one = answer_of c.read_from.result in
    let other = answer_of c.read_from-in-loop-i.result in
    let k : 17 * l.i + 17 ≡ 17 * (l.i + 1) = omega arith in
    let f = lanes_next _ _ (17 * g.n) (17 * l.i) g.out.now l.out _ l.invariant.0 17 (omega arith) (record_of 17 read_numbers one) (record_of 17 read_numbers other) (record_wide one) (record_wide other) _ _ (numbers_next g.file.header g.file.bytes.now l.here _ o one r) (numbers_next g.file.header g.file.bytes.now l.there _ q other t) in (
      rw (two_written l.out (17 * l.i) (17 * g.n + 17 * l.i) one other _ _ (record_told _ _ _ _ c.put_record.ensures) (record_told _ _ _ _ c.put_record-in-loop-i.ensures) (omega (arith, l.invariant.0.room)) (omega (arith, l.invariant.0.room)), ← k) f,
      left_next _ g.n l.i _ l.invariant.1 _ (farther_next g.file.header g.file.bytes.now l.there _ q),
      next_passed_within g.file.header 0 l.here g.file.bytes.now _ o,
      next_passed_within g.file.header 0 l.there g.file.bytes.now _ q,
      passes_next g.file.header g.file.bytes.now g.n l.i l.here (omega arith) l.invariant.4 _ o,
      passes_next g.file.header g.file.bytes.now g.n l.i l.there (omega arith) l.invariant.5 _ q,
    )

pub returns : goal.returns
returns c =
    let l = c.loop-i in
    record {
      value = let g = c.args in λ v k. sym (farther_end g.file.header g.file.bytes.now l.there) ∙ left_end _ g.n l.i _ l.invariant.1 (omega arith) (omega arith) ∙ farther_is g.file.header g.file.bytes.now g.n g.c v k;
      out_after = let g = c.args in λ w v h k. lanes_end _ _ _ _ _ _ _ l.invariant.0 (omega arith) (numbers_none g.file.header g.file.bytes.now l.here) (numbers_none g.file.header g.file.bytes.now l.there) ∙ ap (λ (x : List ℕ). records 17 read_numbers (reads_at g.file.header.flows g.file.bytes.now x) ++ (records 17 read_numbers (reads_at g.file.header.flows g.file.bytes.now (along g.file.header g.file.bytes.now g.n g.c)) ++ drop (17 * g.n + 17 * g.n) g.out.now)) (along_is g.file.header g.file.bytes.now g.n g.b w h) ∙ ap (λ (x : List ℕ). records 17 read_numbers (reads_at g.file.header.flows g.file.bytes.now w.starts) ++ (records 17 read_numbers (reads_at g.file.header.flows g.file.bytes.now x) ++ drop (17 * g.n + 17 * g.n) g.out.now)) (along_is g.file.header g.file.bytes.now g.n g.c v k);
    }
