use Rattle.writing.proofs.Over.{put_digits}
use Rattle.sff_write.proofs.read.Laws.{clips_put}
use Rattle.sff_write.proofs.read.put_clips.Goals as goal

pub returns : goal.returns
returns c =
    clips_put _ _ _ _ _ c.args.d c.requires (put_digits 2 _ _ _ _ c.to_be_bytes.ensures c.copy.ensures) (put_digits 2 _ _ _ _ c.to_be_bytes-2.ensures c.copy-2.ensures) (put_digits 2 _ _ _ _ c.to_be_bytes-3.ensures c.copy-3.ensures) (put_digits 2 _ _ _ _ c.to_be_bytes-4.ensures c.copy-4.ensures)
