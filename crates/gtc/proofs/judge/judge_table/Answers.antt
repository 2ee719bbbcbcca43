use mathlib.Core.Path.{ap}
use Rattle.std.proofs.lemmas.Result.{err_from_is_err_and}
use Rattle.reading.proofs.Results.{run_wrong}
use Rattle.reading.proofs.Tail.{refused_plain, verdict_refused, verdict_whole}
use Rattle.reading.specs.declared.verdict.Whole.{Whole}
use Rattle.gtc.proofs.judge.Laws.{table_whole}
use Rattle.gtc.specs.Judge.{judge_table, extent_of}
use Rattle.gtc.proofs.judge.judge_table.Goals as goal

pub returns-in_err-extent : goal.returns-in_err-extent
unfolding judge_table
returns-in_err-extent c =
    let p = err_from_is_err_and c.from_residual.result c.from_residual.ensures.1 in
    rw (p.1, refused_plain _ _ p.2) (verdict_refused _ extent_of _ _ _ (run_wrong _ _ _ _ _ c.in_err-extent.ensures))

pub returns : goal.returns
unfolding judge_table
returns c =
    let g = c.args in
    let w = ap (λ (w : Whole). w.tail) c.new-whole.ensures in
    rw w (verdict_whole (judge_table g.t.up_to.now g.t.count) extent_of g.s.now _ (table_whole g.s.now g.t.up_to.now g.t.count _ _ c.in_ok-extent.ensures c.unjudged_among.ensures))
