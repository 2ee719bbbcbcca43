use Prim.Native.Nat.{◌+◌, ◌≤◌}
use Rattle.reading.proofs.Loop.{Left}
use Rattle.gtc.specs.Judge.{unjudged_among}
use Rattle.gtc.proofs.judge.unjudged_among.Given as goal

abbrev pub invariant-loop-i : goal.invariant-loop-i
invariant-loop-i l = (l.count ≤ l.i) × Left (λ m. l.count + unjudged_among l.t.up_to.now m l.i) l.t.count l.i (unjudged_among l.t.up_to.now l.t.count 0)
