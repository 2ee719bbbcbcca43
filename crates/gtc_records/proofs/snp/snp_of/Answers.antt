use mathlib.Core.Path.{◌≡◌, ◌∙◌}
use mathlib.Core.Bool.{true}
use native.Mathlib.Omega.{arith}
use borrow.Author.Tests.{le-leb}
use Rattle.reading.specs.Choice.{is_number_of}
use Rattle.reading.specs.Check.{answer}
use Rattle.reading.proofs.Tests.{tests}
use Rattle.gtc_records.specs.Snp.{snp_of}
use Rattle.gtc_records.proofs.snp.Laws.{of_snp}
use Rattle.gtc_records.proofs.snp.snp_of.Goals as goal
use Rattle.gtc_records.proofs.snp.snp_of.Goals.{then-index-lt1-via-then-index-lt1, then-index-lt1-via-else-index-lt1+then-a-index}

pub returns-then-index-lt1 : goal.returns-then-index-lt1
unfolding snp_of answer
returns-then-index-lt1 c =
    elim c.then-index-lt1.branch [
      | then-index-lt1-via-then-index-lt1 w ↦ search tests
      | then-index-lt1-via-else-index-lt1+then-a-index w ↦ search tests
    ]

pub returns : goal.returns
returns c =
    let g = c.args in
    let f : is_number_of g.index g.a.genotypes.count ≡ true = rw (le-leb 1 g.index (omega arith), le-leb g.index g.a.genotypes.count (omega arith)) in
    c.snp.ensures g.s.now ∙ rw c.elements.ensures (of_snp g.s.now g.a c.requires.0 g.index f)
