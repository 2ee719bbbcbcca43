use Prim.Native.Nat.{◌+◌, ◌*◌}
use mathlib.Core.List.{◌++◌}
use lib.ListN.{length, take}
use Rattle.writing.proofs.Begun.{Begun}
use Rattle.abif_write.specs.Item.{records_of, item_at}
use Rattle.abif_write.specs.File.{entries}
use Rattle.abif_write.proofs.file.Laws.{Taken}
use Rattle.abif_write.proofs.file.put_entries.Given as goal

abbrev pub invariant-loop-i : goal.invariant-loop-i
invariant-loop-i l =
    let g = item_at (records_of l.items) in
    let n = length l.items.names.now in
    Begun l.initial.out l.out (l.place + 28 * l.i) (λ m. entries g l.items.buffer.now l.place m l.i l.x) n l.i (take l.place l.initial.out ++ entries g l.items.buffer.now l.place n 0 128) × Taken g n l.i l.x
