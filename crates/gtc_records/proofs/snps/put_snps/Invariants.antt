use Prim.Native.Nat.{◌+◌, ◌*◌}
use mathlib.Core.List.{◌++◌}
use lib.ListN.{drop}
use Rattle.reading.proofs.Fill.{Filling}
use Rattle.gtc_records.specs.Snps.{snps_at, snp_records}
use Rattle.gtc_records.specs.Private.{elements_in}
use Rattle.gtc_records.proofs.snps.Laws.{ahead}
use Rattle.gtc_records.proofs.snps.put_snps.Given as goal

abbrev pub invariant-loop-i : goal.invariant-loop-i
invariant-loop-i l =
    Filling (ahead (elements_in l.b) (l.j + l.i)) (9 * l.n) (9 * l.i) l.initial.out l.out (snp_records (snps_at (elements_in l.b) l.n l.j) ++ drop (9 * l.n) l.initial.out)
