use mathlib.Core.Path.{sym, ◌∙◌}
use native.Mathlib.Omega.{arith}
use Rattle.reading.proofs.Loop.{left_start, left_next, left_end}
use Rattle.contents.proofs.text.Laws.{zero_on, zero_end}
use Rattle.contents.proofs.text.has_zero.Goals as goal

pub loop-b-init : goal.loop-b-init
loop-b-init c = left_start _ _

pub loop-b-preserved : goal.loop-b-preserved
loop-b-preserved c =
    let l = c.loop-b in
    left_next _ _ _ _ l.invariant _ (zero_on c.args.bytes.now l.b-index l.found)

pub returns : goal.returns
returns c = sym (zero_end c.args.bytes.now _ _) ∙ left_end _ _ _ _ c.loop-b.invariant (omega arith) (omega arith)
