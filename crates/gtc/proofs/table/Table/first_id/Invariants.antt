use Prim.Native.Nat.{◌-◌}
use Rattle.reading.proofs.Loop.{Left}
use Rattle.reading.specs.Entries.{first_with}
use Rattle.gtc.specs.Entry.{has_id}
use Rattle.gtc.proofs.table.Table.first_id.Given as goal

abbrev pub invariant-loop-i : goal.invariant-loop-i
invariant-loop-i l = Left (λ m. first_with (has_id l.self.up_to.now l.id) m l.i) l.n l.i (first_with (has_id l.self.up_to.now l.id) (l.n - l.from) l.from)
