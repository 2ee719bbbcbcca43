use mathlib.Core.Path.{◌∙◌}
use native.Mathlib.Omega.{arith}
use borrow.Author.Tests.{le-leb, lt-leb, ne_eqb}
use Rattle.reading.proofs.Tests.{tests}
use Rattle.gtc_records.specs.Genotype.{meaning}
use Rattle.gtc_records.proofs.genotype.meaning_of.Goals as goal

pub returns-in-0 : goal.returns-in-0
unfolding meaning
returns-in-0 c = rw c.in-0.is

pub returns-in-1-to-3 : goal.returns-in-1-to-3
unfolding meaning
returns-in-1-to-3 c = c.letters.ensures ∙ rw (ne_eqb c.args.code 0 (λ e. omega arith), le-leb c.args.code 3 (omega arith))

pub returns-in-4 : goal.returns-in-4
unfolding meaning
returns-in-4 c = rw c.in-4.is

pub returns-in-5 : goal.returns-in-5
unfolding meaning
returns-in-5 c = c.letters-in-5.ensures ∙ rw (ne_eqb c.args.code 0 (λ e. omega arith), lt-leb c.args.code 3 (omega arith), ne_eqb c.args.code 4 (λ e. omega arith), le-leb c.args.code 6 (omega arith))

pub returns-in_default : goal.returns-in_default
unfolding meaning
returns-in_default c = search (tests, c.letters_of.ensures)
