use Rattle.reading.specs.Check.{run}
use Rattle.reading.proofs.Loop.{Left}
use Rattle.gtc.specs.Table.{table_end}
use Rattle.reading.specs.Entries.{in_order}
use Rattle.gtc.specs.Judge.{judge_entry}
use Rattle.gtc.proofs.judge.judge_entries.Given as goal

abbrev pub invariant-loop-i : goal.invariant-loop-i
invariant-loop-i l = Left (λ m. run (in_order (judge_entry l.t.up_to.now l.t.count) m l.i l.x) l.s) l.t.count l.i (run (in_order (judge_entry l.t.up_to.now l.t.count) l.t.count 0 (table_end l.t.count)) l.s)
