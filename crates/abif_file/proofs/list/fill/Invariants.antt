use Prim.Native.Nat.{◌+◌, ◌*◌}
use mathlib.Core.List.{◌++◌}
use lib.ListN.{length, drop}
use Rattle.reading.proofs.Fill.{Filling}
use Rattle.abif_file.specs.List.{raw_entries}
use Rattle.abif_file.proofs.list.fill.Given as goal

abbrev pub invariant-loop-i : goal.invariant-loop-i
invariant-loop-i l =
    let n = length l.initial.out in
    Filling (raw_entries l.h (l.place + 28 * l.i)) n l.i l.initial.out l.out (raw_entries l.h l.place n ++ drop n l.initial.out)
