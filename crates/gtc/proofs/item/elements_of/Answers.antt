use Rattle.reading.specs.Check.{run}
use Rattle.reading.proofs.Tests.{tests}
use Rattle.gtc.specs.Item.{elements_of}
use Rattle.gtc.proofs.item.elements_of.Goals as goal

pub returns-then-s-end : goal.returns-then-s-end
unfolding elements_of run
returns-then-s-end c = search tests

pub returns : goal.returns
unfolding elements_of run
returns c = search tests
