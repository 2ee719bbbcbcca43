use mathlib.Core.List.{◌++◌}
use lib.ListN.{length, take}
use Rattle.writing.proofs.Begun.{Begun}
use Rattle.abif_write.specs.Item.{records_of, item_at}
use Rattle.abif_write.specs.File.{all_data}
use Rattle.abif_write.proofs.file.put_datas.Given as goal

abbrev pub invariant-loop-i : goal.invariant-loop-i
invariant-loop-i l =
    let g = item_at (records_of l.items) in
    let n = length l.items.names.now in
    Begun l.initial.out l.out l.at (λ m. all_data g l.items.buffer.now m l.i) n l.i (take 128 l.initial.out ++ all_data g l.items.buffer.now n 0)
