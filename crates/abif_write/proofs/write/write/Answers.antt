use lib.ListN.{length}
use Rattle.std.proofs.lemmas.Result.{err_from_is_err_and}
use Rattle.abif_write.specs.Item.{records_of}
use Rattle.abif_write.proofs.write.Laws.{write_uneven, write_refused, write_on, accepted}
use Rattle.abif_write.proofs.write.write.Goals as goal

pub returns-then-not-same_lengths : goal.returns-then-not-same_lengths
returns-then-not-same_lengths c =
    let g = c.args in
    let r = write_uneven (records_of g.items.now) g.items.now.buffer.now (length g.out.now) _ c.same_lengths.ensures c.if-not-same_lengths.true in
    record {
      result_value = rw r;
      out_after = rw r;
    }

pub returns-in_err-items_tests : goal.returns-in_err-items_tests
returns-in_err-items_tests c =
    let g = c.args in
    let p = err_from_is_err_and c.from_residual.result c.from_residual.ensures.1 in
    let r = write_refused (records_of g.items.now) g.items.now.buffer.now (length g.out.now) _ c.same_lengths.ensures c.if-not-same_lengths.false _ c.in_err-items_tests.ensures in
    record {
      result_value = rw (p.1, p.2, r);
      out_after = rw r;
    }

pub write_accepted-requires : goal.write_accepted-requires
write_accepted-requires c =
    let g = c.args in
    accepted (records_of g.items.now) g.items.now.buffer.now (length g.out.now) _ c.same_lengths.ensures c.if-not-same_lengths.false c.in_ok-items_tests.ensures

pub returns : goal.returns
returns c =
    let g = c.args in
    let r = write_on (records_of g.items.now) g.items.now.buffer.now (length g.out.now) _ c.same_lengths.ensures c.if-not-same_lengths.false c.in_ok-items_tests.ensures in
    let w = c.write_accepted.ensures in
    record {
      result_value = rw r w.result_value;
      out_after = rw r w.out_after;
    }
