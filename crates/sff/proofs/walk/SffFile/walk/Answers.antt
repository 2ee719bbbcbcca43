use Prim.Native.Nat.{◌+◌}
use mathlib.Core.Path.{sym, ◌∙◌}
use native.Mathlib.Omega.{arith}
use Rattle.std.proofs.lemmas.Result.{err_from_is_err_and}
use Rattle.reading.proofs.Loop.{left_next, left_stop, left_end}
use Rattle.sff.proofs.walk.Laws.{past_wrong, past_next, past_end, next_passed_within}
use Rattle.sff.proofs.walk.SffFile.walk.Goals as goal

pub returns-in_err-read : goal.returns-in_err-read
returns-in_err-read c =
    let g = c.args in
    let p = err_from_is_err_and c.from_residual.result c.from_residual.ensures.1 in
    rw (p.1, p.2) (left_stop _ _ _ _ c.loop-j.invariant.1 (omega arith) _ (past_wrong g.self.header (g.i + c.loop-j.j) c.loop-j.here g.self.bytes.now _ _ c.in_err-read.ensures))

pub loop-j-preserved : goal.loop-j-preserved
loop-j-preserved c =
    let g = c.args in
    let k = g.i + c.loop-j.j in
    let o = sym c.in_ok-read.ensures in
    (next_passed_within g.self.header k c.loop-j.here g.self.bytes.now _ o, left_next _ _ _ _ c.loop-j.invariant.1 _ (past_next g.self.header k c.loop-j.here g.self.bytes.now _ o (g.i + (c.loop-j.j + 1)) (omega arith)))

pub returns : goal.returns
returns c =
    let g = c.args in
    past_end g.self.header (g.i + c.loop-j.j) c.loop-j.here g.self.bytes.now ∙ left_end _ _ _ _ c.loop-j.invariant.1 (omega arith) (omega arith)
