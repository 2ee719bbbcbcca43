use native.Mathlib.Omega.{arith}
use Rattle.writing.proofs.Over.{put_digits}
use Rattle.abif_write.specs.Entry.{tdir}
use Rattle.abif_write.proofs.entry.Laws.{header_put}
use Rattle.abif_write.proofs.entry.put_header.Goals as goal

pub returns : goal.returns
unfolding tdir
returns c =
    header_put _ _ _ _ c.args.n c.args.place (omega arith) (put_digits 4 _ _ _ _ c.to_be_bytes.ensures c.copy.ensures) (put_digits 2 _ _ _ _ c.to_be_bytes-2.ensures c.copy-2.ensures) c.put_entry.ensures c.put_zeros.ensures
