use Rattle.reading.specs.Check.{answer}
use Rattle.reading.proofs.Tests.{tests}
use Rattle.gtc_records.specs.Genotype.{decoding}
use Rattle.gtc_records.proofs.genotype.GenotypeTryFromU8.try_from.Goals as goal

pub returns-then-code-gt-LAST_CODE : goal.returns-then-code-gt-LAST_CODE
unfolding decoding answer
returns-then-code-gt-LAST_CODE c = λ l. search tests

pub returns : goal.returns
unfolding decoding answer
returns c = λ l. search (tests, c.meaning_of.ensures)
