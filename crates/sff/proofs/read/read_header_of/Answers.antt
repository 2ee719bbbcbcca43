use Rattle.sff.specs.Read.{read_header_at}
use Rattle.sff.proofs.read.read_header_of.Goals as goal

pub returns : goal.returns
unfolding read_header_at
returns c = cc
