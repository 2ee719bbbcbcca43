use native.Mathlib.Omega.{arith}
use Rattle.writing.proofs.Over.{put_none, copy_next, copy_end}
use Rattle.writing.proofs.bytes.copy.Goals as goal

pub returns-then-out-v : goal.returns-then-out-v
returns-then-out-v c = put_none _ _ _ (omega arith)

pub loop-i-preserved : goal.loop-i-preserved
loop-i-preserved c =
    let g = c.args in
    copy_next g.out.now g.p g.v.now _ _ c.loop-i.invariant (omega arith) (omega arith)

pub returns : goal.returns
returns c =
    let g = c.args in
    copy_end g.out.now g.p g.v.now _ c.loop-i.i c.loop-i.invariant (omega arith) (omega arith) (omega arith)
