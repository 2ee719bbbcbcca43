use Prim.Native.Nat.{◌+◌}
use native.Mathlib.Omega.{arith}
use lib.ListN.{length}
use Rattle.sff_fields.proofs.padding.Laws.{padded_bounds}
use Rattle.sff_write.proofs.read.Laws.{size_is, header_is}
use Rattle.sff_write.proofs.read.GivenRead.header_at.Goals as goal

pub overflow_cast-result : goal.overflow_cast-result
overflow_cast-result c =
    let e = size_is (16 + length c.args.self.now.name.now) _ c.padding_behind.ensures.0 in
    omega arith

pub overflow_cast-result-2 : goal.overflow_cast-result-2
overflow_cast-result-2 c = omega (arith, padded_bounds (16 + length c.args.self.now.name.now))

pub returns : goal.returns
returns c = header_is _ _ _ _ c.args.self.now.clips c.padding_behind.ensures.0
