-- The flow of a base, from the sum of the flow steps up to it.
use Prim.Native.Nat.{ℕ, ◌+◌, ◌≤◌}
use mathlib.Core.Path.{◌≡◌, sym, ◌∙◌}
use mathlib.Core.List.{List}
use native.Mathlib.Omega.{arith}
use lib.ListN.{length, take, drop}
use borrow.Author.Tests.{le-leb}
use Rattle.reading.specs.Check.{ok, answer, holds}
use Rattle.reading.proofs.Steps.{answer_bind, answer_must, answer_done, answer_need_present}
use Rattle.sff_fields.specs.declared.position.BasePosition.{BasePosition}
use Rattle.sff_fields.specs.declared.parts.Read.{Read}
use Rattle.contents.specs.Steps.{step_sum}
use Rattle.sff.specs.Flow.{flow_of}
use Rattle.contents.proofs.steps.Laws.{sum_window, sum_taken}

module _ (r : Read) (i : BasePosition) (s : List ℕ) (w : r.steps_start + r.bases ≤ length s) where
  pub flow_found : (v k : ℕ) → k ≡ i.0 → v ≡ step_sum (take k (drop r.steps_start s)) 0 (length (take k (drop r.steps_start s))) → 1 ≤ i.0 → i.0 ≤ r.bases → ok (record { 0 = v }) ≡ answer (flow_of r i) s
  unfolding flow_of holds
  flow_found v k e q g h =
      let p = r.steps_start in
      let a : v ≡ step_sum (take (p + r.bases) s) p i.0 = q ∙ sum_window s p i.0 k e (omega arith) ∙ sym (sum_taken s (p + r.bases) p i.0 (omega arith)) in
      simp (answer_bind, answer_must, answer_done, le-leb 1 i.0 g, le-leb i.0 r.bases h, answer_need_present p (p + r.bases) s w, ← a)
