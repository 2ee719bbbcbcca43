use mathlib.Core.Path.{◌≡◌}
use Rattle.writing.specs.Put.{words, put}
use Rattle.writing.proofs.number.put_words.Given as goal

abbrev pub invariant-loop-i : goal.invariant-loop-i
invariant-loop-i l = l.out ≡ put l.initial.out l.p (words l.v l.i 0)
