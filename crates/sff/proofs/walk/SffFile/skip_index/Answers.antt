use Rattle.sff.proofs.walk.Laws.{skip_none, skip_short, skip_index_lem}
use borrow.Author.Rules.{rules}
use Rattle.sff.proofs.walk.SffFile.skip_index.Goals as goal

pub returns-then-start-self : goal.returns-then-start-self
returns-then-start-self c = skip_none _ _ _ c.if-start-self.true

pub returns-then-self-end : goal.returns-then-self-end
returns-then-self-end c = skip_short _ _ _ c.if-start-self.false _ (rw c.index_size.ensures.0) (search rules)

pub returns : goal.returns
returns c = skip_index_lem _ _ _ c.if-start-self.false _ (rw c.index_size.ensures.0) (search rules)
