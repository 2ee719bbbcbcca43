use mathlib.Core.Path.{◌≡◌}
use lib.Seq.{paste}
use Rattle.writing.proofs.bytes.copy.Given as goal

abbrev pub invariant-loop-i : goal.invariant-loop-i
invariant-loop-i l = l.out ≡ paste l.initial.out l.p l.v l.i
