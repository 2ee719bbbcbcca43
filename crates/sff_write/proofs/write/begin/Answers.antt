use Prim.Native.Nat.{◌+◌}
use mathlib.Core.List.{[]}
use native.Mathlib.Omega.{arith}
use lib.ListN.{length}
use Rattle.reading.specs.Check.{answer}
use Rattle.sff_write.specs.Write.{beginning}
use Rattle.sff_write.proofs.read.Laws.{size_is}
use Rattle.sff_write.proofs.write.Laws.{told_refused, begin_flows, begin_key, begin_size, begin_room, begin_written}
use Rattle.sff_write.proofs.write.begin.Goals as goal
use Rattle.sff_write.proofs.write.begin.Goals.{then-n-gt65535-via-then-n-gt65535, then-n-gt65535-via-else-n-gt65535+then-k-gt65535}

pub returns-then-n-gt65535 : goal.returns-then-n-gt65535
returns-then-n-gt65535 c =
    let g = c.args in
    let a = answer (beginning g.reads g.letters.now g.key.now (length g.out.now)) [] in
    let t = told_refused a 0 g.out.now 9
    (elim c.then-n-gt65535.branch [
      | then-n-gt65535-via-then-n-gt65535 w ↦ begin_flows _ g.letters.now g.key.now _ w.if-n-gt65535.true
      | then-n-gt65535-via-else-n-gt65535+then-k-gt65535 w ↦ begin_key _ g.letters.now g.key.now _ w.if-n-gt65535.false w.if-k-gt65535.true
    ]) in
    record { result_value = t.0; out_after = t.1 }

pub returns-then-size-gt65535 : goal.returns-then-size-gt65535
returns-then-size-gt65535 c =
    let g = c.args in
    let a = answer (beginning g.reads g.letters.now g.key.now (length g.out.now)) [] in
    let e = size_is (31 + length c.args.letters.now + length c.args.key.now) _ c.padding_behind.ensures.0 in
    let t = told_refused a 0 g.out.now 9 (begin_size _ g.letters.now g.key.now _ c.if-n-gt65535.false c.if-k-gt65535.false _ e c.if-size-gt65535.true) in
    record { result_value = t.0; out_after = t.1 }

pub returns-then-out-size : goal.returns-then-out-size
returns-then-out-size c =
    let g = c.args in
    let a = answer (beginning g.reads g.letters.now g.key.now (length g.out.now)) [] in
    let e = size_is (31 + length c.args.letters.now + length c.args.key.now) _ c.padding_behind.ensures.0 in
    let t = told_refused a 0 g.out.now 13 (begin_room _ g.letters.now g.key.now _ c.if-n-gt65535.false c.if-k-gt65535.false _ e c.if-size-gt65535.false c.if-out-size.true) in
    record { result_value = t.0; out_after = t.1 }

pub put_header-requires : goal.put_header-requires
put_header-requires c =
    let e = size_is (31 + length c.args.letters.now + length c.args.key.now) _ c.padding_behind.ensures.0 in
    (omega arith, omega arith)

pub returns : goal.returns
returns c =
    let g = c.args in
    let e = size_is (31 + length c.args.letters.now + length c.args.key.now) _ c.padding_behind.ensures.0 in
    let t = begin_written _ g.letters.now g.key.now _ _ _ c.if-n-gt65535.false c.if-k-gt65535.false e c.if-size-gt65535.false c.if-out-size.false c.put_header.ensures in
    record { result_value = t.0; out_after = t.1 }
