use Rattle.abif_write.specs.Item.{records_of, item_at}
use Rattle.abif_write.proofs.file.Laws.{datas_next, datas_end}
use Rattle.abif_write.proofs.file.put_datas.Goals as goal

pub loop-i-preserved : goal.loop-i-preserved
loop-i-preserved c =
    let g = c.args in
    let l = c.loop-i in
    datas_next (item_at (records_of g.items.now)) g.items.now.buffer.now _ _ _ _ _ l.invariant c.loop-i-test.true c.requires.has_room _ c.item_at-d.ensures (c.requires.accepted.sound l.i c.loop-i-test.true) _ c.size_outside-at.ensures _ c.put_data.ensures

pub returns : goal.returns
returns c =
    let g = c.args in
    let l = c.loop-i in
    datas_end (item_at (records_of g.items.now)) g.items.now.buffer.now _ _ _ _ l.i l.invariant c.loop-i-test.false c.requires.has_room
