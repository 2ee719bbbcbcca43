-- Demand 1, whole.
use Rattle.reading.specs.Part.{Part}
use Rattle.promises.specs.Formats.{Name, ABIF, SFF, GTC, format_of}
use Rattle.promises.specs.Demand1.{Ends, Demand1}
use Rattle.promises.proofs.Abif.{abif_ends}
use Rattle.promises.proofs.Sff.{sff_ends}
use Rattle.promises.proofs.Gtc.{gtc_ends}
use Rattle.promises.proofs.Writing.{writing_ends}

reading_ends : (n : Name) (c : (format_of n).Call) (file : Part) → Ends (format_of n) c file
reading_ends ABIF = abif_ends
reading_ends SFF = sff_ends
reading_ends GTC = gtc_ends

pub demand1 : Demand1
demand1 = record { reading = reading_ends; writing = writing_ends }
