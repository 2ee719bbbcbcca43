use native.Mathlib.Omega.{arith}
use Rattle.abif_write.proofs.file.Laws.{data_inline}
use Rattle.abif_write.proofs.file.put_data.Goals as goal

pub returns-then-d-le4 : goal.returns-then-d-le4
returns-then-d-le4 c = data_inline c.args.out.now c.args.p c.args.buffer.now c.args.d (omega arith) (omega arith)
