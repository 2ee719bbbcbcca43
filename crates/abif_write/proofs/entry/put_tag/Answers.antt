use native.Mathlib.Omega.{arith}
use Rattle.writing.proofs.Over.{put_digits}
use Rattle.abif_write.proofs.entry.Laws.{tag_put}
use Rattle.abif_write.proofs.entry.put_tag.Goals as goal

pub returns : goal.returns
returns c =
    tag_put c.args.d _ _ _ _ _ (omega arith) (put_digits 4 _ _ _ _ c.to_be_bytes.ensures c.copy.ensures) (put_digits 4 _ _ _ _ c.to_be_bytes-2.ensures c.copy-2.ensures) (put_digits 2 _ _ _ _ c.to_be_bytes-3.ensures c.copy-3.ensures) (put_digits 2 _ _ _ _ c.to_be_bytes-4.ensures c.copy-4.ensures)
