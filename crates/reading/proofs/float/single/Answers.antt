use mathlib.Core.Path.{sym}
use native.Mathlib.Omega.{arith}
use lib.Ieee.{binary32, of_bits, div}
use Rattle.reading.proofs.Floats.{of_nan, no_nan}
use Rattle.reading.proofs.float.single.Goals as goal

pub float_from_bits-result : goal.float_from_bits-result
float_from_bits-result c = no_nan binary32 c.args.bits (λ e. omega arith)

pub returns : goal.returns
unfolding div of_bits
returns c = sym (of_nan binary32 c.args.bits (omega arith) (λ e. omega arith))
