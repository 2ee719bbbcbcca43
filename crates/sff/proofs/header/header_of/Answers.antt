use Prim.Native.Nat.{◌+◌, ◌*◌}
use mathlib.Core.Path.{◌≡◌}
use native.Mathlib.Omega.{arith}
use Rattle.reading.specs.Number.{be}
use Rattle.reading.proofs.Width.{be_split}
use Rattle.sff.specs.Header.{header_of}
use Rattle.sff.proofs.header.header_of.Goals as goal

pub returns : goal.returns
unfolding header_of
returns c =
    let h = c.args.h.now in
    let e : 4294967296 * c.be32-high.result + c.be32-low.result ≡ be 8 h 8 = rw (be_split 4 4) (omega arith) in
    cc
