use Rattle.std.proofs.Common.{rules}
use Rattle.abif.proofs.TagOrder.{below_is}
use Rattle.abif_write.proofs.item.Laws.{order_at}
use Rattle.abif_write.proofs.item.LentItems.in_order.Goals as goal

pub returns-else-i-eq0 : goal.returns-else-i-eq0
returns-else-i-eq0 c = search (rules, below_is, order_at)
