-- Demand 3, whole.
use Rattle.promises.specs.Formats.{ABIF, SFF, GTC}
use Rattle.promises.specs.Demand3.{Demand3}
use Rattle.promises.proofs.Abif.{abif_holds}
use Rattle.promises.proofs.Sff.{sff_holds}
use Rattle.promises.proofs.Gtc.{gtc_holds}

pub demand3 : Demand3
demand3 ABIF = abif_holds
demand3 SFF = sff_holds
demand3 GTC = gtc_holds
