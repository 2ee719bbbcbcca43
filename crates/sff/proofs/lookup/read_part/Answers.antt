use mathlib.Core.Path.{sym}
use Rattle.reading.specs.Part.{shown}
use Rattle.reading.proofs.Parts.{part_there}
use Rattle.sff.proofs.lookup.Laws.{number_fits}
use Rattle.sff.proofs.lookup.read_part.Goals as goal

pub returns : goal.returns
returns c =
    let g = c.args in
    rw (c.part-2.ensures, c.span_of-q.ensures, ← c.in-Ok.ensures) (part_there (shown g.s) _ _ (number_fits g.s.now g.k c.in-Ok.r (sym c.in-Ok.ensures) g.which))
