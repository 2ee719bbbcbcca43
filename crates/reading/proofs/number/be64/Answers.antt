use mathlib.Core.Path.{sym}
use native.Mathlib.Omega.{arith}
use Rattle.reading.proofs.Width.{be_past, be_split}
use Rattle.reading.proofs.number.be64.Goals as goal

pub returns-then-s-p : goal.returns-then-s-p
returns-then-s-p c = sym (be_past 8 c.args.p c.args.s.now (omega arith))

pub returns : goal.returns
returns c = rw (be_split 4 4) (omega arith)
