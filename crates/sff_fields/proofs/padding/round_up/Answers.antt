use Prim.Native.Nat.{ℕ, ◌+◌}
use mathlib.Core.Path.{ap}
use native.Mathlib.Omega.{arith}
use Rattle.sff_fields.specs.Padding.{padded}
use Rattle.sff_fields.proofs.padding.round_up.Goals as goal

pub returns : goal.returns
unfolding padded
returns c = (ap (λ (k : ℕ). c.args.n + k) c.padding_behind.ensures.0, omega arith)
