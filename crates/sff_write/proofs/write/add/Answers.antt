use mathlib.Core.List.{[]}
use lib.ListN.{length}
use Rattle.reading.specs.Check.{answer}
use Rattle.reading.specs.Answers.{answer_of}
use Rattle.sff_write.specs.Read.{read_of}
use Rattle.sff_write.specs.Write.{adding}
use Rattle.sff_write.proofs.read.Laws.{fitting, lengths_ok}
use Rattle.sff_write.proofs.write.Laws.{told_refused, add_past, add_lengths, add_told}
use Rattle.sff_write.proofs.write.add.Goals as goal
use Rattle.sff_write.proofs.write.add.Goals.{then-w-via-then-w, then-w-via-else-w+then-not-lengths_hold}

pub returns-then-w : goal.returns-then-w
returns-then-w c =
    let g = c.args in
    let r = read_of g.read.now in
    let t = told_refused (answer (adding g.w r (length g.out.now)) []) g.w.at g.out.now 9
    (elim c.then-w.branch [
      | then-w-via-then-w w ↦ add_past g.w r _ w.if-w.true
      | then-w-via-else-w+then-not-lengths_hold w ↦ add_lengths g.w r _ w.if-w.false _ (w.lengths_hold.ensures []) w.if-not-lengths_hold.true
    ]) in
    record { result_value = t.0; out_after = t.1 }

pub add_fitting-requires-clause-fitting : goal.add_fitting-requires-clause-fitting
add_fitting-requires-clause-fitting c =
    let g = c.args in
    fitting g.w.flows (read_of g.read.now) [] tt (lengths_ok _ _ c.lengths_hold.result (c.lengths_hold.ensures []) c.if-not-lengths_hold.false)

pub returns : goal.returns
returns c =
    let g = c.args in
    let r = read_of g.read.now in
    let t = add_told g.w r (length g.out.now) c.if-w.false c.lengths_hold.result (c.lengths_hold.ensures []) c.if-not-lengths_hold.false (answer_of c.add_fitting.result) g.w.at _ g.out.now (c.add_fitting.ensures.result_value, c.add_fitting.ensures.out_after) in
    record { result_value = t.0; out_after = t.1 }
