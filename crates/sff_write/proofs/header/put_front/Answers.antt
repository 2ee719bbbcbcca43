use Rattle.writing.proofs.Over.{put_digits}
use Rattle.sff_write.proofs.header.Laws.{front_put}
use Rattle.sff_write.proofs.header.put_front.Goals as goal

pub returns : goal.returns
returns c =
    front_put _ _ _ _ _ c.requires (put_digits 4 _ _ _ _ c.to_be_bytes.ensures c.copy.ensures) (put_digits 4 _ _ _ _ c.to_be_bytes-2.ensures c.copy-2.ensures) c.put_zeros.ensures (put_digits 4 _ _ _ _ c.to_be_bytes-3.ensures c.copy-3.ensures)
