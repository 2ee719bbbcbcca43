-- The flow steps of an SFF read.
use Rattle.std.specs.Prelude.{ℕ, zero, suc, ◌+◌, List, Bool, true, false, leb, eqb}
use Rattle.reading.specs.Choice.{pick}
use Rattle.reading.specs.Number.{be}
use Rattle.reading.specs.declared.check.Rule.TheVariants.{AtLeast}
use Rattle.reading.specs.Check.{Check, unsigned_field, done, must, provided, ◌>>◌}

-- the flow step at place p
abbrev pub flow_step : List ℕ → ℕ → ℕ
flow_step bytes p = be 1 bytes p

-- no running sum of the n flow steps from place p on passes the flows, where the steps before them have this sum
unfoldable pub sums_within : ℕ → List ℕ → ℕ → ℕ → ℕ → Bool
sums_within flows bytes p sum zero = true
sums_within flows bytes p sum (suc n) =
    pick (leb (sum + flow_step bytes p) flows)
    (sums_within flows bytes (p + 1) (sum + flow_step bytes p) n)
    false

-- the n flow steps from place p on: the first flow step must be at least 1, and running sums may not pass the flows, 11
unfoldable pub steps_check : ℕ → List ℕ → ℕ → ℕ → Check (Unit {0})
steps_check flows bytes p n = do
  pick (eqb n 0) (done tt) (must (unsigned_field 1 p (flow_step bytes p)) (AtLeast 1) 11)
  provided (sums_within flows bytes p 0 n) 11

-- the sum of the n flow steps from place p on
unfoldable pub step_sum : List ℕ → ℕ → ℕ → ℕ
step_sum bytes p zero = 0
step_sum bytes p (suc n) = flow_step bytes p + step_sum bytes (p + 1) n
