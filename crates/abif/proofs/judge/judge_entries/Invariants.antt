use Prim.Native.Nat.{◌+◌, ◌*◌, max}
use Rattle.reading.specs.Check.{run}
use Rattle.reading.proofs.Loop.{Left}
use Rattle.reading.specs.Entries.{in_order}
use Rattle.abif.specs.Judge.{judge_entry}
use Rattle.abif.proofs.judge.judge_entries.Given as goal

abbrev pub invariant-loop-i : goal.invariant-loop-i
invariant-loop-i l =
    Left (λ m. run (in_order (judge_entry l.entries.bytes.now l.entries.place) m l.i l.x) l.s) l.count l.i (run (in_order (judge_entry l.entries.bytes.now l.entries.place) l.count 0 (max 128 (l.entries.place + 28 * l.count))) l.s)
