use Prim.Native.Nat.{◌*◌}
use mathlib.Core.List.{◌++◌}
use lib.ListN.{length, drop}
use Rattle.reading.proofs.Fill.{Filling}
use Rattle.abif_tags.proofs.finding.Laws.{numbers_from}
use Rattle.abif_tags.proofs.finding.put_all.Given as goal

abbrev pub invariant-loop-m : goal.invariant-loop-m
invariant-loop-m l =
    let n = 3 * length l.findings in
    Filling (λ _. numbers_from l.findings l.m) n (3 * l.m) l.initial.out l.out (numbers_from l.findings 0 ++ drop n l.initial.out)
