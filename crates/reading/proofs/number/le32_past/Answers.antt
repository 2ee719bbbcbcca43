use mathlib.Core.Path.{sym}
use native.Mathlib.Omega.{arith}
use Rattle.reading.proofs.Width.{le_split, le_past}
use Rattle.reading.proofs.number.le32_past.Goals as goal

pub returns-then-s-p : goal.returns-then-s-p
returns-then-s-p c = sym (le_past 4 c.args.p c.args.s.now (omega arith))

pub returns : goal.returns
returns c = rw (le_split 2 2) (omega arith)
