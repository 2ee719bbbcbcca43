use mathlib.Core.Path.{◌≡◌}
use mathlib.Core.Bool.{true, false}
use native.Mathlib.Omega.{arith}
use lib.ListN.{length}
use borrow.Author.Tests.{le-leb, lt-leb}
use Rattle.reading.specs.Choice.{is_number_of}
use Rattle.gtc_records.proofs.snps.Laws.{of_none, of_small, of_put}
use Rattle.gtc_records.proofs.snps.snps_of.Goals as goal
use Rattle.gtc_records.proofs.snps.snps_of.Goals.{then-first-lt1-via-then-first-lt1, then-first-lt1-via-else-first-lt1+then-count-first}

pub returns-then-first-lt1 : goal.returns-then-first-lt1
returns-then-first-lt1 c =
    let g = c.args in
    let f : is_number_of g.first g.a.genotypes.count ≡ false = elim c.then-first-lt1.branch [
      | then-first-lt1-via-then-first-lt1 w ↦ rw (lt-leb 1 g.first w.if-first-lt1.true)
      | then-first-lt1-via-else-first-lt1+then-count-first w ↦ rw (le-leb 1 g.first (omega arith), lt-leb g.first g.a.genotypes.count (omega arith))
    ] in
    let e = of_none g.s.now g.a g.first f (length g.out.now) in
    record {
      result_value = rw e;
      out_after = rw e;
    }

pub returns-then-room-lt-SNP_WIDTH : goal.returns-then-room-lt-SNP_WIDTH
returns-then-room-lt-SNP_WIDTH c =
    let g = c.args in
    let f : is_number_of g.first g.a.genotypes.count ≡ true = rw (le-leb 1 g.first (omega arith), le-leb g.first g.a.genotypes.count (omega arith)) in
    let e = of_small g.s.now g.a g.first f (length g.out.now) c.if-room-lt-SNP_WIDTH.true in
    record {
      result_value = rw e;
      out_after = rw e;
    }

pub returns : goal.returns
returns c =
    let g = c.args in
    let f : is_number_of g.first g.a.genotypes.count ≡ true = rw (le-leb 1 g.first (omega arith), le-leb g.first g.a.genotypes.count (omega arith)) in
    let o = rw (c.elements.ensures, c.min-n.ensures) at c.put_snps.ensures in
    let t = of_put g.s.now g.a c.requires.0 g.first f g.out.now c.if-room-lt-SNP_WIDTH.false _ o in
    record { result_value = rw c.min-n.ensures t.0; out_after = t.1 }
