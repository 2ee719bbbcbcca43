use Rattle.std.proofs.Common.{rules}
use Rattle.reading.specs.Check.{holds}
use Rattle.reading.proofs.Tests.{tests}
use Rattle.reading.proofs.Steps.{answer_must}
use Rattle.sff_fields.specs.Padding.{padded}
use Rattle.sff_write.specs.Read.{name_fits}
use Rattle.sff_write.proofs.read.name_fits.Goals as goal

pub returns-then-n-le65535 : goal.returns-then-n-le65535
unfolding name_fits padded holds
returns-then-n-le65535 c l = simp (answer_must, c.padding_behind.ensures.0)

pub returns-else-n-le65535 : goal.returns-else-n-le65535
unfolding name_fits padded holds
returns-else-n-le65535 c l = search (answer_must, tests, rules)
