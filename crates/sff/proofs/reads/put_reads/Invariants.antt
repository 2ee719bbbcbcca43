use Prim.Native.Nat.{◌-◌, ◌*◌, ◌≤◌}
use mathlib.Core.List.{◌++◌}
use lib.ListN.{length, drop}
use Rattle.reading.proofs.Fill.{Filling}
use Rattle.reading.specs.Bulk.{records}
use Rattle.sff.specs.Private.{Passes}
use Rattle.sff.specs.Reads.{reads_at}
use Rattle.sff_fields.specs.Parts.{read_numbers}
use Rattle.sff.proofs.reads.Laws.{along, numbers_left}
use Rattle.sff.proofs.reads.put_reads.Given as goal

abbrev pub invariant-loop-i : goal.invariant-loop-i
invariant-loop-i l =
    Filling (numbers_left l.file.header l.file.bytes.now l.here) (17 * l.n) (17 * l.i) l.initial.out l.out (records 17 read_numbers (reads_at l.file.header.flows l.file.bytes.now (along l.file.header l.file.bytes.now l.n l.initial.here)) ++ drop (17 * l.n) l.initial.out) × (l.here.position ≤ length l.file.bytes.now) × Passes l.file.header l.file.bytes.now (l.n - l.i) l.here
