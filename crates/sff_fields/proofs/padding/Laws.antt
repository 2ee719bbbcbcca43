-- Rounding up to 8 adds at most 7.
use Prim.Native.Nat.{ℕ, ◌+◌, ◌≤◌}
use native.Mathlib.Omega.{arith}
use Rattle.sff_fields.specs.Padding.{padding, padded}

pub padded_bounds : (n : ℕ) → (n ≤ padded n) × (padded n ≤ n + 7)
unfolding padded padding
padded_bounds n = (omega arith, omega arith)
