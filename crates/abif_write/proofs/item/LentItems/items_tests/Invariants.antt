use mathlib.Core.List.{[]}
use lib.ListN.{length}
use Rattle.reading.specs.Check.{answer}
use Rattle.reading.proofs.Loop.{Left}
use Rattle.abif_write.specs.Item.{records_of, item_at, items_check}
use Rattle.abif_write.proofs.item.LentItems.items_tests.Given as goal

abbrev pub invariant-loop-i : goal.invariant-loop-i
invariant-loop-i l =
    let g = item_at (records_of l.self) in
    let n = length l.self.names.now in
    Left (λ m. answer (items_check g l.self.buffer.now m l.i) []) n l.i (answer (items_check g l.self.buffer.now n 0) [])
