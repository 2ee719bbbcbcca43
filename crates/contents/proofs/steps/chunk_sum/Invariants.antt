use Prim.Native.Nat.{◌+◌, ◌*◌, ◌≤◌}
use lib.ListN.{length}
use Rattle.reading.proofs.Loop.{Left}
use Rattle.contents.specs.Steps.{step_sum}
use Rattle.contents.proofs.steps.chunk_sum.Given as goal

abbrev pub invariant-loop-step : goal.invariant-loop-step
invariant-loop-step l =
    (l.sum ≤ 255 * l.step-index) × Left (λ m. l.sum + step_sum l.steps l.step-index m) (length l.steps) l.step-index (step_sum l.steps 0 (length l.steps))
