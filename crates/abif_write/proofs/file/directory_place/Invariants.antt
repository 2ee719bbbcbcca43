use Prim.Native.Nat.{◌+◌, ◌*◌, ◌≤◌}
use lib.ListN.{length}
use Rattle.abif_write.specs.Item.{records_of, item_at}
use Rattle.abif_write.proofs.file.Laws.{Taken}
use Rattle.abif_write.proofs.file.directory_place.Given as goal

abbrev pub invariant-loop-i : goal.invariant-loop-i
invariant-loop-i l =
    (l.x ≤ 128 + 0x80000000 * l.i) × Taken (item_at (records_of l.items)) (length l.items.names.now) l.i l.x
