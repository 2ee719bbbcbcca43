use mathlib.Core.Path.{refl}
use native.Mathlib.Omega.{arith}
use Rattle.sff_fields.specs.Padding.{padding}
use Rattle.sff_fields.proofs.padding.padding_behind.Goals as goal

pub returns : goal.returns
unfolding padding
returns c = (refl, omega arith)
