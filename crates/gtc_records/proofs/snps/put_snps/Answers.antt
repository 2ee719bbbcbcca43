use mathlib.Core.Path.{refl}
use mathlib.Core.List.{[]}
use native.Mathlib.Omega.{arith}
use Rattle.reading.proofs.Fill.{fill_end}
use Rattle.gtc_records.specs.Snps.{snps_at}
use Rattle.gtc_records.specs.Private.{elements_in}
use Rattle.gtc_records.proofs.snps.Laws.{fill_snp}
use Rattle.gtc_records.proofs.snps.put_snps.Goals as goal

pub loop-i-preserved : goal.loop-i-preserved
loop-i-preserved c =
    let g = c.args in
    rw (c.put_record.ensures, c.snp.ensures []) (fill_snp (elements_in g.b) g.j g.n c.loop-i.i _ _ _ c.loop-i.invariant (omega arith))

pub returns : goal.returns
unfolding snps_at
returns c = fill_end _ _ _ _ _ _ c.loop-i.invariant (omega arith) refl
