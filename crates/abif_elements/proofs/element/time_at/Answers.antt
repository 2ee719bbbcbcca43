use Rattle.abif_elements.proofs.element.Laws.{time_good, time_bad}
use Rattle.abif_elements.proofs.element.time_at.Goals as goal

pub returns-then-not-time_holds : goal.returns-then-not-time_holds
returns-then-not-time_holds c s =
    time_bad _ s _ _ _ _ _ c.byte-hour.ensures c.byte-minute.ensures c.byte-second.ensures c.byte-hundredth.ensures _ c.time_holds.ensures c.if-not-time_holds.true

pub returns : goal.returns
returns c s =
    time_good _ s _ _ _ _ _ c.byte-hour.ensures c.byte-minute.ensures c.byte-second.ensures c.byte-hundredth.ensures _ c.time_holds.ensures c.if-not-time_holds.false
