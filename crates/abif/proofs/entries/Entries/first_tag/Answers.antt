use native.Mathlib.Omega.{arith}
use Rattle.reading.proofs.Loop.{left_next, left_stop}
use Rattle.reading.proofs.Entries.{first_here, first_on}
use Rattle.abif.specs.Entry.{has_tag}
use Rattle.abif.proofs.entries.Entries.first_tag.Goals as goal

pub returns-then-has_tag-clause-first : goal.returns-then-has_tag-clause-first
returns-then-has_tag-clause-first c =
    let g = c.args in
    let step = first_here (has_tag g.self.bytes.now g.self.place g.name g.number) c.loop-i.i _ c.has_tag.ensures in
    left_stop _ _ _ _ c.loop-i.invariant (omega arith) _ (λ m. step m c.if-has_tag.true)

pub loop-i-preserved : goal.loop-i-preserved
loop-i-preserved c =
    let g = c.args in
    let step = first_on (has_tag g.self.bytes.now g.self.place g.name g.number) c.loop-i.i _ c.has_tag.ensures in
    left_next _ _ _ _ c.loop-i.invariant _ (λ m. step m c.if-has_tag.false)
