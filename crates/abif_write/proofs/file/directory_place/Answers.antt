use native.Mathlib.Omega.{arith}
use Rattle.abif_write.specs.Item.{records_of, item_at}
use Rattle.abif_write.proofs.file.Laws.{taken_next, taken_end, item_below, item_apart}
use Rattle.abif_write.proofs.file.directory_place.Goals as goal

pub loop-i-preserved : goal.loop-i-preserved
loop-i-preserved c =
    let s = c.args.items.now in
    let l = c.loop-i in
    let q = item_below (item_at (records_of s)) s.buffer.now l.i _ c.item_at.ensures (c.requires.accepted.sound l.i c.loop-i-test.true) _ c.size_outside-x.ensures in
    let a = item_apart (item_at (records_of s)) s.buffer.now l.i _ c.item_at.ensures _ c.size_outside-x.ensures in
    (omega arith, taken_next (item_at (records_of s)) _ l.i l.x l.invariant.1 _ a)

pub returns : goal.returns
returns c =
    let l = c.loop-i in
    (taken_end (item_at (records_of c.args.items.now)) _ l.i l.x l.invariant.1 (omega arith) (omega arith), omega arith)
