use Rattle.reading.specs.Check.{answer}
use Rattle.reading.proofs.Tests.{tests}
use Rattle.gtc_records.specs.Transformation.{transformation_of}
use Rattle.gtc_records.proofs.transformation.transformation_of.Goals as goal
use Rattle.gtc_records.proofs.transformation.transformation_of.Goals.{then-k-lt1-via-then-k-lt1, then-k-lt1-via-else-k-lt1+then-q-k}

pub returns-then-k-lt1 : goal.returns-then-k-lt1
unfolding transformation_of answer
returns-then-k-lt1 c =
    elim c.then-k-lt1.branch [
      | then-k-lt1-via-then-k-lt1 w ↦ search tests
      | then-k-lt1-via-else-k-lt1+then-q-k w ↦ search tests
    ]

pub returns : goal.returns
unfolding transformation_of answer
returns c = search (tests, c.transformation_at.ensures)
