use Rattle.reading.specs.Check.{run}
use Rattle.reading.proofs.Tests.{tests}
use Rattle.gtc.specs.Item.{shape_check}
use Rattle.gtc.proofs.item.block_tests.Goals as goal

pub returns-then-s-end : goal.returns-then-s-end
unfolding shape_check run
returns-then-s-end c h n = search tests

pub returns : goal.returns
unfolding shape_check run
returns c h n = search tests
