use native.Mathlib.Omega.{arith}
use lib.ListN.{length}
use Rattle.abif_write.specs.Item.{records_of, item_at}
use Rattle.abif_write.proofs.write.Laws.{file_many, file_over, file_little, file_written}
use Rattle.abif_write.proofs.write.write_accepted.Goals as goal

pub returns-then-n-gt999 : goal.returns-then-n-gt999
returns-then-n-gt999 c =
    let g = c.args in
    let r = file_many (item_at (records_of g.items.now)) g.items.now.buffer.now (length g.items.now.names.now) (length g.out.now) (omega arith) in
    record {
      result_value = rw r;
      out_after = rw r;
    }

pub returns-then-end-gt2147483647 : goal.returns-then-end-gt2147483647
returns-then-end-gt2147483647 c =
    let g = c.args in
    let r = file_over (item_at (records_of g.items.now)) g.items.now.buffer.now (length g.items.now.names.now) (length g.out.now) c.requires.sound (omega arith) _ c.directory_place-place.ensures.0 (omega arith) in
    record {
      result_value = rw r;
      out_after = rw r;
    }

pub returns-then-out-end : goal.returns-then-out-end
returns-then-out-end c =
    let g = c.args in
    let r = file_little (item_at (records_of g.items.now)) g.items.now.buffer.now (length g.items.now.names.now) (length g.out.now) c.requires.sound (omega arith) _ c.directory_place-place.ensures.0 (omega arith) (omega arith) in
    record {
      result_value = rw r;
      out_after = rw r;
    }

pub returns : goal.returns
returns c =
    let g = c.args in
    let t = file_written (item_at (records_of g.items.now)) g.items.now.buffer.now g.out.now _ (length g.items.now.names.now) _ c.requires.sound (omega arith) c.directory_place-place.ensures.0 (omega arith) (omega arith) c.put_file.ensures in
    record { result_value = t.0; out_after = t.1 }
