use Prim.Native.Nat.{◌+◌}
use native.Mathlib.Omega.{arith}
use Rattle.abif_write.specs.Item.{records_of, item_at}
use Rattle.abif_write.proofs.file.Laws.{taken_next, taken_within, item_apart, item_entry, entry_placed, entries_next, entries_end}
use Rattle.abif_write.proofs.file.put_entries.Goals as goal

pub overflow_cast-x : goal.overflow_cast-x
overflow_cast-x c =
    let g = c.args in
    let h = c.loop-i in
    let b = taken_within (item_at (records_of g.items.now)) _ h.i h.x h.invariant.1 h.invariant.0.up_to in
    omega (arith, c.requires.place_fits)

pub put_entry-requires : goal.put_entry-requires
put_entry-requires c =
    let g = c.args in
    let h = c.loop-i in
    let e = h.invariant.0.same in
    let p = entry_placed _ _ _ _ _ c.entry_for-e.ensures in
    omega arith

pub overflow_add-x : goal.overflow_add-x
overflow_add-x c =
    let g = c.args in
    let h = c.loop-i in
    let a = item_apart (item_at (records_of g.items.now)) g.items.now.buffer.now h.i _ c.item_at-d.ensures _ c.size_outside-x.ensures in
    let b = taken_within (item_at (records_of g.items.now)) _ (h.i + 1) _ (taken_next (item_at (records_of g.items.now)) _ h.i h.x h.invariant.1 _ a) (omega arith) in
    omega (arith, c.requires.place_fits)

pub loop-i-preserved : goal.loop-i-preserved
loop-i-preserved c =
    let g = c.args in
    let h = c.loop-i in
    let a = item_apart (item_at (records_of g.items.now)) g.items.now.buffer.now h.i _ c.item_at-d.ensures _ c.size_outside-x.ensures in
    let p = entry_placed _ _ _ _ _ c.entry_for-e.ensures in
    (entries_next (item_at (records_of g.items.now)) g.items.now.buffer.now _ _ h.x _ h.i g.place h.invariant.0 c.loop-i-test.true c.requires.has_room _ (item_entry (item_at (records_of g.items.now)) _ h.i _ c.item_at-d.ensures _ _ _ c.entry_for-e.ensures) _ a _ (rw (← p) c.put_entry.ensures), taken_next (item_at (records_of g.items.now)) _ h.i h.x h.invariant.1 _ a)

pub returns : goal.returns
returns c =
    let g = c.args in
    let h = c.loop-i in
    entries_end (item_at (records_of g.items.now)) g.items.now.buffer.now _ _ h.x _ h.i g.place h.invariant.0 c.loop-i-test.false c.requires.has_room
