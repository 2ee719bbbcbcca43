use Prim.Native.Nat.{◌+◌, ◌-◌, ◌*◌, ◌≤◌}
use mathlib.Core.List.{◌++◌}
use lib.ListN.{length, drop}
use Rattle.reading.proofs.Fill.{Lanes}
use Rattle.reading.proofs.Loop.{Left}
use Rattle.reading.specs.Bulk.{records}
use Rattle.sff.specs.Private.{Passes}
use Rattle.sff.specs.Reads.{reads_at}
use Rattle.sff_fields.specs.Parts.{read_numbers}
use Rattle.sff.proofs.reads.Laws.{along, farther, numbers_left}
use Rattle.sff.proofs.reads.put_pairs.Given as goal

abbrev pub invariant-loop-i : goal.invariant-loop-i
invariant-loop-i l =
    Lanes (numbers_left l.file.header l.file.bytes.now l.here) (numbers_left l.file.header l.file.bytes.now l.there) (17 * l.n) (17 * l.i) l.initial.out l.out (records 17 read_numbers (reads_at l.file.header.flows l.file.bytes.now (along l.file.header l.file.bytes.now l.n l.initial.here)) ++ (records 17 read_numbers (reads_at l.file.header.flows l.file.bytes.now (along l.file.header l.file.bytes.now l.n l.initial.there)) ++ drop (17 * l.n + 17 * l.n) l.initial.out)) × Left (λ m. farther l.file.header l.file.bytes.now m l.there) l.n l.i (farther l.file.header l.file.bytes.now l.n l.initial.there) × (l.here.position ≤ length l.file.bytes.now) × (l.there.position ≤ length l.file.bytes.now) × Passes l.file.header l.file.bytes.now (l.n - l.i) l.here × Passes l.file.header l.file.bytes.now (l.n - l.i) l.there
