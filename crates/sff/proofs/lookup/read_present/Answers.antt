use Prim.Native.Nat.{◌+◌, ◌-◌}
use mathlib.Core.Path.{◌∙◌, ap}
use native.Mathlib.Omega.{arith}
use Rattle.reading.specs.Check.{ok}
use Rattle.contents.proofs.steps.Laws.{steps_window}
use Rattle.sff_fields.specs.Read.{steps_start}
use Rattle.sff.proofs.lookup.Laws.{contents_bad, contents_good}
use Rattle.sff.proofs.lookup.read_present.Goals as goal

pub returns-then-not-contents_hold : goal.returns-then-not-contents_hold
returns-then-not-contents_hold c s =
    let g = c.args in
    let p = steps_start g.flows g.d in
    let w = steps_window g.l.now p g.d.bases (p + g.d.bases - p) (omega arith) c.requires g.flows s in
    contents_bad g.flows g.d g.l.now _ s w _ (c.contents_hold.ensures s) c.if-not-contents_hold.true

pub returns : goal.returns
returns c s =
    let g = c.args in
    let p = steps_start g.flows g.d in
    let w = steps_window g.l.now p g.d.bases (p + g.d.bases - p) (omega arith) c.requires g.flows s in
    ap ok c.read_of.ensures ∙ contents_good g.flows g.d g.l.now _ s w _ (c.contents_hold.ensures s) c.if-not-contents_hold.false
