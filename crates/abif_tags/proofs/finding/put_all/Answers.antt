use native.Mathlib.Omega.{arith}
use Rattle.reading.proofs.Fill.{fill_end}
use Rattle.abif_tags.proofs.finding.Laws.{numbers_next, numbers_none}
use Rattle.abif_tags.proofs.finding.put_all.Goals as goal

pub loop-m-preserved : goal.loop-m-preserved
loop-m-preserved c =
    rw c.put.ensures (numbers_next c.args.findings.now c.loop-m.m _ _ _ c.loop-m.invariant (omega arith))

pub returns : goal.returns
returns c =
    fill_end _ _ _ _ _ _ c.loop-m.invariant (omega arith) (numbers_none c.args.findings.now c.loop-m.m (omega arith))
