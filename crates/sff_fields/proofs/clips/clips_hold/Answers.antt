use Rattle.reading.specs.Check.{answer}
use Rattle.sff_fields.specs.Clips.{clips_check}
use Rattle.sff_fields.proofs.clips.Laws.{pick-max}
use Rattle.sff_fields.proofs.clips.clips_hold.Goals as goal

pub returns : goal.returns
unfolding clips_check answer
returns c l = simp (c.max-most.ensures, c.max-2.ensures, c.max.ensures, pick-max)
