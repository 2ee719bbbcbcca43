use mathlib.Core.Path.{sym, ◌∙◌}
use Rattle.gtc.proofs.lookup.Laws.{in_listed, in_unlisted}
use Rattle.gtc.proofs.lookup.lookup_in.Goals as goal

pub returns-in-Some : goal.returns-in-Some
returns-in-Some c =
    let g = c.args in
    c.lookup_listed.ensures ∙ in_listed g.s.now g.t.up_to.now g.t.count g.id _ (sym c.listing_of.ensures ∙ c.in-Some.is)

pub returns-in-None : goal.returns-in-None
returns-in-None c =
    let g = c.args in
    in_unlisted g.s.now g.t.up_to.now g.t.count g.id (sym c.listing_of.ensures ∙ c.in-None.is)
