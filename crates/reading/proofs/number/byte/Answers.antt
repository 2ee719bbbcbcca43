use mathlib.Core.Path.{sym, ◌∙◌}
use native.Mathlib.Omega.{arith}
use Rattle.reading.proofs.Width.{byte_le, le_byte, be_past}
use Rattle.reading.proofs.number.byte.Goals as goal

pub returns-then-p-s : goal.returns-then-p-s
returns-then-p-s c = sym (byte_le c.args.s.now c.args.p ∙ le_byte c.args.s.now c.args.p)

pub returns : goal.returns
returns c = sym (be_past 1 c.args.p c.args.s.now (omega arith))
