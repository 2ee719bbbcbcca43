use mathlib.Core.Path.{◌∙◌, sym}
use borrow.Author.Rules.{rules}
use Rattle.std.proofs.lemmas.Result.{err_from_is_err_and}
use Rattle.reading.proofs.Results.{answer_passed}
use Rattle.abif.specs.Directory.{opening}
use Rattle.abif.proofs.directory.Laws.{opened_within}
use Rattle.reading.proofs.Results.{told_at}
use Rattle.abif.proofs.judge.Laws.{judge_wrong, judge_opened}
use Rattle.abif.proofs.judge.extent.Goals as goal

pub returns-in_err-d : goal.returns-in_err-d
returns-in_err-d c =
    let p = err_from_is_err_and c.from_residual.result c.from_residual.ensures.1 in
    let q = (told_at _ 0 (λ f w k. search rules) c.read_header.result _ c.map_err.ensures.cases).1 _ c.in_err-d.was in
    let h = rw q.1 at c.read_header.ensures in
    rw (p.1, p.2, q.2) (judge_wrong c.args.s.now _ h)

pub of-requires : goal.of-requires
of-requires c =
    let q = (told_at _ 0 (λ f w k. search rules) c.read_header.result _ c.map_err.ensures.cases).0 _ c.in_ok-d.was in
    let h = rw q at c.read_header.ensures in
    opened_within c.args.s.now _ _ (sym (answer_passed opening c.args.s.now _ h))

pub returns : goal.returns
returns c =
    let s = c.args.s.now in
    let q = (told_at _ 0 (λ f w k. search rules) c.read_header.result _ c.map_err.ensures.cases).0 _ c.in_ok-d.was in
    let h = rw q at c.read_header.ensures in
    let e = c.of.ensures in
    c.judge_entries.ensures ∙ rw (e.0, e.1, e.2) (judge_opened s _ _ (sym (answer_passed opening s _ h)))
