use Prim.Native.Nat.{◌+◌}
use native.Mathlib.Omega.{arith}
use lib.ListN.{length}
use Rattle.sff_fields.proofs.padding.Laws.{padded_bounds}
use Rattle.sff_write.proofs.read.Laws.{size_is}
use Rattle.sff_write.proofs.header.Laws.{header_put}
use Rattle.sff_write.proofs.header.put_header.Goals as goal

pub overflow_add-n-2 : goal.overflow_add-n-2
overflow_add-n-2 c =
    let e = padded_bounds (31 + length c.args.letters.now + length c.args.key.now) in
    omega arith

pub overflow_add-size-2 : goal.overflow_add-size-2
overflow_add-size-2 c =
    let e = padded_bounds (31 + length c.args.letters.now + length c.args.key.now) in
    omega arith

pub overflow_add-size-3 : goal.overflow_add-size-3
overflow_add-size-3 c =
    let e = padded_bounds (31 + length c.args.letters.now + length c.args.key.now) in
    omega arith

pub put_front-requires : goal.put_front-requires
put_front-requires c =
    let e = padded_bounds (31 + length c.args.letters.now + length c.args.key.now) in
    omega arith

pub overflow_cast-size : goal.overflow_cast-size
overflow_cast-size c =
    let e = size_is (31 + length c.args.letters.now + length c.args.key.now) _ c.padding_behind-zeros.ensures.0 in
    omega arith

pub overflow_cast-k : goal.overflow_cast-k
overflow_cast-k c =
    let e = padded_bounds (31 + length c.args.letters.now + length c.args.key.now) in
    omega arith

pub overflow_cast-n : goal.overflow_cast-n
overflow_cast-n c =
    let e = padded_bounds (31 + length c.args.letters.now + length c.args.key.now) in
    omega arith

pub put_lengths-requires : goal.put_lengths-requires
put_lengths-requires c =
    let e = padded_bounds (31 + length c.args.letters.now + length c.args.key.now) in
    omega arith

pub put_letters-requires : goal.put_letters-requires
put_letters-requires c =
    let e = size_is (31 + length c.args.letters.now + length c.args.key.now) _ c.padding_behind-zeros.ensures.0 in
    omega arith

pub returns : goal.returns
returns c =
    let g = c.args in
    let z = c.padding_behind-zeros.ensures.0 in
    let e = size_is (31 + length g.letters.now + length g.key.now) _ z in
    header_put _ _ _ _ g.letters.now g.key.now _ _ z e c.requires.1 c.put_front.ensures c.put_lengths.ensures c.put_letters.ensures
