-- The formats, each with all its reading calls: `Call` in Abif, Sff and Gtc lists them.
use Rattle.promises.specs.Format.{Format}
use Rattle.promises.specs.Abif.{abif}
use Rattle.promises.specs.Sff.{sff}
use Rattle.promises.specs.Gtc.{gtc}

pub data Name : Type 0 where
  ABIF : Name
  SFF : Name
  GTC : Name

abbrev pub format_of : Name → Format
format_of ABIF = abif
format_of SFF = sff
format_of GTC = gtc
