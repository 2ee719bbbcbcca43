use Prim.Native.Nat.{ℕ, ◌+◌, ◌*◌}
use mathlib.Core.List.{List, ◌++◌}
use mathlib.Core.Path.{◌≡◌, ◌∙◌, ap}
use native.Mathlib.Omega.{arith}
use lib.ListN.{drop}
use Rattle.reading.proofs.Fill.{fill_record, fill_end}
use Rattle.reading.specs.Bulk.{record_of, records}
use Rattle.reading.specs.Answers.{answer_of}
use Rattle.sff_fields.proofs.record.Laws.{record_wide, one_written, record_told}
use Rattle.sff.specs.Reads.{reads_at}
use Rattle.sff_fields.specs.Parts.{read_numbers}
use Rattle.sff.proofs.reads.Laws.{along_is, passes_first, passes_next, numbers_next, numbers_none}
use Rattle.sff.proofs.walk.Laws.{next_passed_within, next_passed_start}
use Rattle.sff.proofs.reads.put_reads.Goals as goal

pub sound_read-read-requires : goal.sound_read-read-requires
sound_read-read-requires c = let l = c.loop-i in
    let g = c.args in
    (l.invariant.1, passes_first g.file.header g.file.bytes.now g.n l.i l.here (omega arith) l.invariant.2)

pub read_from-requires : goal.read_from-requires
read_from-requires c = let l = c.loop-i in
    let g = c.args in
    next_passed_start g.file.header 0 l.here g.file.bytes.now _ l.invariant.1 c.sound_read-read.ensures

pub loop-i-preserved : goal.loop-i-preserved
loop-i-preserved c = let l = c.loop-i in
    let g = c.args in
    let o = c.sound_read-read.ensures in
    let r = c.read_from.ensures in
    let f = fill_record _ (17 * g.n) (17 * l.i) g.out.now l.out _ l.invariant.0 (record_of 17 read_numbers (answer_of c.read_from.result)) 17 (record_wide (answer_of c.read_from.result)) (omega arith) _ (numbers_next g.file.header g.file.bytes.now l.here _ o _ r) in
    let k : 17 * l.i + 17 ≡ 17 * (l.i + 1) = omega arith in
    (rw (one_written l.out (17 * l.i) (answer_of c.read_from.result) _ (record_told _ _ _ _ c.put_record.ensures) (omega (arith, l.invariant.0.room)), ← k) f, next_passed_within g.file.header 0 l.here g.file.bytes.now _ o, passes_next g.file.header g.file.bytes.now g.n l.i l.here (omega arith) l.invariant.2 _ o)

pub returns : goal.returns
returns c = λ w h.
    let l = c.loop-i in
    let g = c.args in
    fill_end _ _ _ _ _ _ l.invariant.0 (omega arith) (numbers_none g.file.header g.file.bytes.now l.here) ∙ ap (λ (x : List ℕ). records 17 read_numbers (reads_at g.file.header.flows g.file.bytes.now x) ++ drop (17 * g.n) g.out.now) (along_is g.file.header g.file.bytes.now g.n g.b w h)
