use native.Mathlib.Omega.{arith}
use Rattle.abif_write.proofs.entry.Laws.{entry_put}
use Rattle.abif_write.proofs.entry.put_entry.Goals as goal

pub returns : goal.returns
returns c = entry_put c.args.d _ _ (omega arith) c.put_tag.ensures c.put_data_fields.ensures
