use native.Mathlib.Omega.{arith}
use lib.ListN.{length}
use Rattle.abif_write.specs.Item.{records_of, item_at}
use Rattle.abif_write.proofs.file.Laws.{datas_fit, file_put}
use Rattle.abif_write.proofs.file.put_file.Goals as goal

pub put_datas-requires-clause-has_room : goal.put_datas-requires-clause-has_room
put_datas-requires-clause-has_room c =
    let g = c.args in
    let l = c.put_header.auto in
    datas_fit (item_at (records_of g.items.now)) g.items.now.buffer.now (length g.items.now.names.now) g.place _ c.requires.accepted.sound c.requires.directory_fits.1 (omega (arith, c.requires.directory_fits))

pub returns : goal.returns
returns c =
    let g = c.args in
    file_put (item_at (records_of g.items.now)) g.items.now.buffer.now _ _ _ _ g.place c.requires.accepted.sound c.requires.directory_fits.1 c.requires.directory_fits.3 c.put_header.ensures c.put_datas.ensures c.put_entries.ensures
