use Prim.Native.Nat.{◌+◌, ◌-◌}
use native.Mathlib.Omega.{arith}
use lib.ListN.{length-take}
use Rattle.reading.specs.Check.{answer}
use Rattle.reading.proofs.Tests.{tests}
use Rattle.sff.specs.Flow.{flow_of}
use Rattle.contents.proofs.steps.Laws.{sum_whole}
use Rattle.sff.proofs.flow.Laws.{flow_found}
use Rattle.sff.proofs.flow.flow_in.Goals.{then-i-lt1-via-then-i-lt1, then-i-lt1-via-else-i-lt1+then-r-i}
use Rattle.sff.proofs.flow.flow_in.Goals as goal

pub returns-then-i-lt1 : goal.returns-then-i-lt1
unfolding flow_of answer
returns-then-i-lt1 c =
    elim c.then-i-lt1.branch [ then-i-lt1-via-then-i-lt1 w ↦ search tests | then-i-lt1-via-else-i-lt1+then-r-i w ↦ search tests ]

pub returns : goal.returns
returns c =
    let g = c.args in
    let p = g.r.steps_start in
    flow_found g.r g.base g.s.now c.requires c.sum_of.result (p + g.base.0 - p) (omega arith) (sum_whole 0x1000000000000 c.sum_of.result _ c.sum_of.ensures (simp length-take (omega arith))) c.if-i-lt1.false c.if-r-i.false
