use mathlib.Core.Path.{refl, ◌∙◌, ap}
use native.Mathlib.Omega.{arith}
use mir.Syntax.{w16}
use Rattle.reading.specs.Number.{signed}
use Rattle.reading.proofs.Signs.{cast_is}
use Rattle.abif_elements.proofs.element.Laws.{date_good, date_bad}
use Rattle.abif_elements.proofs.element.date_at.Goals as goal

pub returns-then-not-date_holds : goal.returns-then-not-date_holds
returns-then-not-date_holds c s =
    let e = cast_is w16 2 c.be16.result _ refl refl (omega arith) c.cast_signed-year.ensures ∙ ap (signed 2) c.be16.ensures in
    date_bad _ s _ _ _ _ e c.byte-month.ensures c.byte-day.ensures _ c.date_holds.ensures c.if-not-date_holds.true

pub returns : goal.returns
returns c s =
    let e = cast_is w16 2 c.be16.result _ refl refl (omega arith) c.cast_signed-year.ensures ∙ ap (signed 2) c.be16.ensures in
    date_good _ s _ _ _ _ e c.byte-month.ensures c.byte-day.ensures _ c.date_holds.ensures c.if-not-date_holds.false
