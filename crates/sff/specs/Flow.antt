-- SFF: the flow of a base.
use Rattle.std.specs.Prelude.{ℕ, ◌+◌}
use Rattle.reading.specs.Choice.{is_number_of}
use Rattle.reading.specs.Check.{Check, done, need, provided, ◌>>=◌, ◌>>◌}
use Rattle.contents.specs.Steps.{step_sum}
use Rattle.sff_fields.specs.declared.position.BasePosition.{BasePosition}
use Rattle.sff_fields.specs.declared.position.FlowPosition.{FlowPosition}
use Rattle.sff_fields.specs.declared.parts.Read.{Read}
use Rattle.sff.specs.Lookup.{read_reading}

-- base i's flow is the sum of the first i steps; no such base 12
unfoldable pub flow_of : Read → BasePosition → Check FlowPosition
flow_of read base = do
  provided (is_number_of base.0 read.bases) 12
  up_to ← need read.steps_start (read.steps_start + read.bases)
  done (record { 0 = step_sum up_to read.steps_start base.0 })

unfoldable pub flow_reading : ℕ → BasePosition → Check FlowPosition
flow_reading number base = do
  read ← read_reading number
  flow_of read base
