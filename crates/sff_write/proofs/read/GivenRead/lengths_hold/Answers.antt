use Rattle.std.proofs.Common.{rules}
use Rattle.reading.specs.Check.{holds}
use Rattle.reading.proofs.Tests.{tests}
use Rattle.reading.proofs.Steps.{answer_bind, answer_must}
use Rattle.sff_write.specs.Read.{lengths_check}
use Rattle.sff_write.proofs.read.GivenRead.lengths_hold.Goals as goal

pub returns-then-self-le4294967295 : goal.returns-then-self-le4294967295
unfolding lengths_check holds
returns-then-self-le4294967295 c l = search (answer_bind, answer_must, tests, rules, ← c.name_fits.ensures l, ← c.clips_fit.ensures l)

pub returns-else-self-le4294967295 : goal.returns-else-self-le4294967295
unfolding lengths_check holds
returns-else-self-le4294967295 c l = search (answer_bind, answer_must, tests, rules, ← c.name_fits.ensures l)
