use Rattle.gtc.proofs.table.Laws.{mark_bytes}
use Rattle.gtc.proofs.table.mark_of.Goals as goal

pub returns : goal.returns
returns c = mark_bytes _ _ _ c.le16.ensures c.byte.ensures
