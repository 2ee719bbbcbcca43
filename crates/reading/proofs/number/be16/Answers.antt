use native.Mathlib.Omega.{arith}
use Rattle.reading.proofs.Width.{be_swapped}
use Rattle.reading.proofs.number.be16.Goals as goal

pub returns : goal.returns
returns c = let g = c.args in rw (be_swapped 2 g.s.now g.p (λ i. omega (arith, c.shared_slice_known-1.given i)), ← c.le16-low_first.ensures) (omega (arith, c.swap_bytes.ensures))
