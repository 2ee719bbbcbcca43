use mathlib.Core.Path.{◌∙◌}
use Rattle.gtc_records.proofs.genotype.Laws.{of_length}
use Rattle.gtc_records.proofs.genotype.letters_of.Goals as goal

pub returns : goal.returns
returns c =
    let q = of_length c.args.code c.requires.0 c.requires.1 _ _ _ _ _ c.reaches.ensures.0 c.reaches-2.ensures.0 c.reaches-3.ensures.0 c.reaches-4.ensures.0 c.reaches-5.ensures.0 in
    c.letters.ensures ∙ q.is
