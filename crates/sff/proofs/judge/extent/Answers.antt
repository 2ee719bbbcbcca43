use mathlib.Core.Path.{sym, ◌∙◌, ap}
use borrow.Author.Rules.{rules}
use Rattle.std.proofs.lemmas.Result.{err_from_is_err_and}
use Rattle.reading.specs.Answers.{outcome_of_judged}
use Rattle.reading.proofs.Cut.{run_ok}
use Rattle.reading.proofs.Results.{run_wrong, run_passed}
use Rattle.sff.specs.Header.{header}
use Rattle.sff.specs.Judge.{judging}
use Rattle.reading.proofs.Results.{judged_same}
use Rattle.sff.proofs.header.Laws.{header_there}
use Rattle.sff.proofs.judge.extent.Goals as goal

pub invariant_of-judge_reads : goal.invariant_of-judge_reads
invariant_of-judge_reads c =
    let e = judged_same _ (λ f w k. search rules) header c.args.s.now _ _ c.map_err.ensures.cases c.read_header.ensures in
    record { present = header_there _ _ (run_ok _ _ _ (sym e ∙ ap outcome_of_judged c.in_ok-header.was)) }

pub returns-in_err-header : goal.returns-in_err-header
unfolding judging
returns-in_err-header c =
    let e = judged_same _ (λ f w k. search rules) header c.args.s.now _ _ c.map_err.ensures.cases c.read_header.ensures in
    let p = err_from_is_err_and c.from_residual.result c.from_residual.ensures.1 in
    rw (p.1, p.2) (run_wrong header c.args.s.now _ _ _ (sym (ap outcome_of_judged c.in_err-header.was) ∙ e))

pub returns : goal.returns
unfolding judging
returns c =
    let e = judged_same _ (λ f w k. search rules) header c.args.s.now _ _ c.map_err.ensures.cases c.read_header.ensures in
    c.judge_reads.ensures ∙ run_passed header c.args.s.now _ _ (sym (ap outcome_of_judged c.in_ok-header.was) ∙ e)
