use Prim.Native.Nat.{◌+◌, ◌*◌, ◌≤◌}
use mathlib.Core.Path.{◌≡◌}
use lib.ListN.{length}
use Rattle.contents.specs.Steps.{step_sum}
use Rattle.contents.proofs.steps.sum_up_to.Given as goal

abbrev pub invariant-loop-chunk : goal.invariant-loop-chunk
invariant-loop-chunk l =
    let rest = l.chunk-iterator.rest.now in
    (l.chunk-iterator.size ≡ 256)
    × (l.sum ≤ l.most)
    × (l.sum + step_sum rest 0 (length rest) ≡ step_sum l.steps 0 (length l.steps))
    × (l.sum + 65536 * length rest ≤ 65536 * length l.steps)
