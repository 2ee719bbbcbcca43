use Rattle.sff_fields.proofs.read_contents.Laws.{contents_clips, contents_steps}
use Rattle.sff_fields.proofs.read_contents.contents_hold.Goals as goal

pub returns-then-clips_hold : goal.returns-then-clips_hold
returns-then-clips_hold c l = contents_steps c.args.d c.args.flows c.args.steps.now l _ (c.clips_hold.ensures l) c.steps_hold.result (c.steps_hold.ensures l) c.if-clips_hold.true

pub returns-else-clips_hold : goal.returns-else-clips_hold
returns-else-clips_hold c l = rw c.if-clips_hold.false (contents_clips c.args.d c.args.flows c.args.steps.now l _ (c.clips_hold.ensures l) c.if-clips_hold.false)
