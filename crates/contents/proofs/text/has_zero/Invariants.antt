use mathlib.Core.Bool.{true}
use lib.ListN.{length}
use Rattle.reading.specs.Choice.{pick}
use Rattle.reading.proofs.Loop.{Left}
use Rattle.contents.specs.Text.{zero_among}
use Rattle.contents.proofs.text.has_zero.Given as goal

abbrev pub invariant-loop-b : goal.invariant-loop-b
invariant-loop-b l =
    Left (λ m. pick l.found true (zero_among l.bytes l.b-index m)) (length l.bytes) l.b-index (zero_among l.bytes 0 (length l.bytes))
