use Prim.Native.Nat.{ℕ}
use mathlib.Core.Path.{◌∙◌, ap}
use mathlib.Core.List.{List}
use lib.ListN.{length}
use borrow.Author.Rules.{rules}
use Rattle.std.proofs.lemmas.Result.{err_from_is_err_and}
use Rattle.reading.specs.Check.{Answer}
use Rattle.reading.specs.Verdict.{with_tail}
use Rattle.reading.proofs.Results.{answer_wrong_behind, answer_passed, answer_ok, told_at}
use Rattle.reading.proofs.Tail.{refused_plain}
use Rattle.gtc.specs.Table.{Table, table}
use Rattle.gtc.specs.Judge.{Extent, judge_table, judging, extent_of}
use Rattle.gtc.proofs.judge.judge.Goals as goal

abbrev tailed : List ℕ → Answer Extent → Answer (Extent × ℕ)
tailed s = with_tail extent_of (length s)

pub returns-in_err-t : goal.returns-in_err-t
unfolding judging
returns-in_err-t c =
    let s = c.args.s.now in
    let p = err_from_is_err_and c.from_residual.result c.from_residual.ensures.1 in
    let q = (told_at _ 0 (λ f w k. search rules) c.read.result _ c.map_err.ensures.cases).1 _ c.in_err-t.was in
    let h = rw q.1 at c.read.ensures in
    rw (p.1, refused_plain _ _ p.2, q.2) (ap (tailed s) (answer_wrong_behind table s (λ (t : Table). judge_table t.up_to t.count) _ 0 h))

pub returns : goal.returns
unfolding judging
returns c =
    let s = c.args.s.now in
    let q = (told_at _ 0 (λ f w k. search rules) c.read.result _ c.map_err.ensures.cases).0 _ c.in_ok-t.was in
    let h = rw q at c.read.ensures in
    c.judge_table.ensures ∙ ap (tailed s) (answer_ok table s (λ (t : Table). judge_table t.up_to t.count) _ (answer_passed table s _ h))
