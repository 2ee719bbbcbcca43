use Rattle.sff_write.proofs.header.Laws.{letters_put}
use Rattle.sff_write.proofs.header.put_letters.Goals as goal

pub returns : goal.returns
returns c = letters_put _ _ _ c.args.letters.now c.args.key.now c.args.zeros c.requires c.copy.ensures c.copy-2.ensures c.put_zeros.ensures
