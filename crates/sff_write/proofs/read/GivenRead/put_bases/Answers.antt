use Rattle.sff_write.proofs.read.Laws.{bases_put}
use Rattle.sff_write.proofs.read.GivenRead.put_bases.Goals as goal

pub returns : goal.returns
returns c = bases_put _ _ _ _ c.args.p c.args.self.now.steps.now c.args.self.now.letters.now c.args.self.now.qualities.now c.args.zeros c.copy.ensures c.copy-2.ensures c.copy-3.ensures c.put_zeros.ensures c.requires
