use Rattle.sff_write.proofs.read.Laws.{header_put}
use Rattle.sff_write.proofs.read.put_header.Goals as goal

pub returns : goal.returns
returns c = header_put _ _ _ _ c.args.p c.args.d c.args.name.now c.args.zeros c.requires c.put_lengths.ensures c.put_clips.ensures c.copy.ensures c.put_zeros.ensures
