use Prim.Native.Nat.{◌+◌, ◌*◌}
use mathlib.Core.List.{◌++◌}
use lib.ListN.{length, drop}
use Rattle.reading.proofs.Fill.{Filling}
use Rattle.abif_elements.specs.Numbers.{wholes_at}
use Rattle.abif_elements.proofs.numbers.copy.Given as goal

abbrev pub invariant-loop-i : goal.invariant-loop-i
invariant-loop-i l =
    let n = length l.initial.out in
    Filling (wholes_at l.code l.w l.l (l.p + l.w * l.i)) n l.i l.initial.out l.out (wholes_at l.code l.w l.l l.p n ++ drop n l.initial.out)
