use Rattle.reading.specs.Check.{answer}
use Rattle.reading.proofs.Tests.{tests}
use Rattle.sff_write.specs.Write.{finishing}
use Rattle.sff_write.proofs.write.finish.Goals as goal

pub returns-then-w : goal.returns-then-w
unfolding finishing answer
returns-then-w c = search tests

pub returns : goal.returns
unfolding finishing answer
returns c = search tests
