use mathlib.Core.Path.{sym, ◌∙◌}
use borrow.Author.Rules.{rules}
use Rattle.std.proofs.lemmas.Result.{err_from_is_err_and}
use Rattle.sff.specs.Judge.{ending}
use Rattle.reading.proofs.Results.{judged_same}
use Rattle.sff.proofs.walk.Laws.{past_within}
use Rattle.sff.proofs.judge.Laws.{reads_wrong, reads_passed}
use Rattle.sff.proofs.judge.judge_reads.Goals as goal

pub judge_ending-requires : goal.judge_ending-requires
judge_ending-requires c = past_within _ _ _ _ _ _ c.args.file.present (sym c.in_ok-b.ensures)

pub returns-in_err-b : goal.returns-in_err-b
returns-in_err-b c =
    let p = err_from_is_err_and c.from_residual.result c.from_residual.ensures.1 in
    rw (p.1, p.2) (reads_wrong _ _ _ _ c.in_err-b.ensures)

pub returns : goal.returns
returns c =
    let g = c.args in
    judged_same _ (λ f w k. search rules) (ending g.file.header c.in_ok-b.b) g.file.bytes.now _ _ c.map_err.ensures.cases c.judge_ending.ensures ∙ reads_passed g.file.header g.file.bytes.now _ c.in_ok-b.ensures
