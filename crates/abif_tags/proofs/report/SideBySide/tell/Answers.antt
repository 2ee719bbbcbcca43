use native.Mathlib.Omega.{arith}
use Rattle.abif_tags.proofs.report.Laws.{gathered_next, gathered_end, left_none}
use Rattle.abif_tags.proofs.report.SideBySide.tell.Goals as goal

pub loop-i-preserved-in-Some : goal.loop-i-preserved-in-Some
loop-i-preserved-in-Some c =
    let step = c.step-found in
    let g = gathered_next _ _ c.loop-i.m c.args.out.now c.loop-i.out c.loop-i.invariant.0 (omega arith) c.in-Some.finding _ (rw c.in-Some.is at step.ensures.step_told) in
    (g, c.loop-i.invariant.1, omega arith, step.ensures.step_in_bounds.0, step.ensures.step_in_bounds.1)

pub returns : goal.returns
returns c =
    let s = c.args.self.now in
    let w = c.loop-i.invariant.0 in
    let e = gathered_end _ _ c.loop-i.m c.args.out.now c.loop-i.out w (left_none s.profile.number s.bytes.now s.place s.order.now c.loop-i.i c.loop-i.j (omega arith) (omega arith)) (omega arith) in
    record {
      value = e.0;
      out_after = (omega arith, e.1, w.behind);
    }
