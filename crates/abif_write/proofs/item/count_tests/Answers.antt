use Rattle.std.proofs.Common.{rules}
use Rattle.reading.specs.Check.{answer}
use Rattle.reading.proofs.Tests.{tests}
use Rattle.abif_write.specs.Item.{count_check}
use Rattle.abif_write.proofs.item.count_tests.Goals as goal

pub returns-then-d-ge2147483648 : goal.returns-then-d-ge2147483648
unfolding count_check answer
returns-then-d-ge2147483648 c = search (tests, rules, ← c.written_size.ensures)

pub returns : goal.returns
unfolding count_check answer
returns c = search (tests, rules, ← c.written_size.ensures)
