use mathlib.Core.Path.{◌∙◌, sym}
use lib.ListN.{length}
use Rattle.reading.specs.Number.{bits}
use Rattle.std.proofs.lemmas.Result.{err_from_is_err_and}
use Rattle.reading.proofs.Results.{answer_refused, answer_ok}
use Rattle.abif.specs.Lookup.{looking_up}
use Rattle.abif_elements.specs.Numbers.{numbers_of_item, numbers_reading}
use Rattle.abif.proofs.lookup.Laws.{found_checked}
use Rattle.abif_elements.proofs.numbers.whole_numbers.Goals as goal

pub numbers_of-requires : goal.numbers_of-requires
numbers_of-requires c = let g = c.args in
    found_checked g.s.now g.tag.name (bits 4 g.tag.number) _ (sym c.in_ok-q.ensures)

pub returns-in_err-q : goal.returns-in_err-q
unfolding numbers_reading
returns-in_err-q c =
    let g = c.args in
    let p = err_from_is_err_and c.from_residual.result c.from_residual.ensures.1 in
    let e = answer_refused (looking_up g.tag.name (bits 4 g.tag.number)) g.s.now (λ q. numbers_of_item q g.first (length g.out.now)) _ 0 c.in_err-q.ensures in
    record {
      result_value = rw (p.1, p.2, ← e);
      out_after = rw (← e);
    }

pub returns : goal.returns
unfolding numbers_reading
returns c =
    let g = c.args in
    let e = answer_ok (looking_up g.tag.name (bits 4 g.tag.number)) g.s.now (λ q. numbers_of_item q g.first (length g.out.now)) _ c.in_ok-q.ensures in
    record {
      result_value = c.numbers_of.ensures.result_value ∙ rw e;
      out_after = c.numbers_of.ensures.out_after ∙ rw e;
    }
