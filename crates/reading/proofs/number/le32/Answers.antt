use native.Mathlib.Omega.{arith}
use Rattle.reading.proofs.Width.{le_split, le_byte}
use Rattle.reading.proofs.number.le32.Goals as goal

pub returns-then-p-s : goal.returns-then-p-s
returns-then-p-s c = rw (le_split 3 1, le_split 2 1, le_split 1 1, le_byte, le_byte, le_byte, le_byte) (omega (arith, c.from_le_bytes.ensures))
