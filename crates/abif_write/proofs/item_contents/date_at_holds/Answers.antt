use mathlib.Core.Path.{refl, ◌∙◌}
use mir.Syntax.{w16}
use Rattle.reading.proofs.Signs.{cast_is}
use Rattle.abif_write.proofs.item_contents.date_at_holds.Goals as goal

pub returns : goal.returns
returns c =
    let e = cast_is w16 2 c.be16.result c.cast_signed-year.result refl refl c.be16.type_inv c.cast_signed-year.ensures in
    c.date_holds.ensures ∙ rw (e, c.be16.ensures, c.byte.ensures, c.byte-2.ensures)
