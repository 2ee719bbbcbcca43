use Rattle.std.proofs.Common.{rules}
use Rattle.reading.proofs.Tests.{tests}
use Rattle.reading.specs.Check.{holds, answer}
use Rattle.sff_write.specs.Read.{clips_fit}
use Rattle.sff_write.proofs.read.clips_fit.Goals as goal

pub returns-then-c-le65535-3 : goal.returns-then-c-le65535-3
unfolding clips_fit holds answer
returns-then-c-le65535-3 c l = search (tests, rules)

pub returns-else-c-le65535-3 : goal.returns-else-c-le65535-3
unfolding clips_fit holds answer
returns-else-c-le65535-3 c l = search (tests, rules)
