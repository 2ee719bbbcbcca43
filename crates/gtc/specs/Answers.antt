-- What the results of the code stand for: an answer of document 01, and an outcome of its checks.
use Rattle.std.specs.Prelude.{ℕ, Result, Ok, Err}
use Rattle.reading.specs.declared.verdict.Refused.{Refused}
use Rattle.reading.specs.declared.check.Failure.{Failure}
use Rattle.reading.specs.declared.refusal.Refusal.{Refusal}
use Rattle.reading.specs.Check.{Outcome, passed, Answer, ok, refused}
use Rattle.reading.specs.Refusal.{number}
use Rattle.reading.specs.Answers.{outcome_of_failure}
use Rattle.gtc.specs.declared.judge.Whole.{Whole}
use Rattle.gtc.specs.declared.table.Table as code
use Rattle.gtc.specs.Table.{Table}
use Rattle.gtc.specs.Judge.{Extent}

-- a table that is there
abbrev pub table_of : code.Table → Table
table_of t = record { count = t.count; up_to = t.up_to.now }

abbrev pub outcome_of_table : Result code.Table (Failure Refusal) → Outcome Table
outcome_of_table (Ok t) = passed (table_of t)
outcome_of_table (Err f) = outcome_of_failure f 0

-- judging: the extent with the number of unjudged entries, and the tail
abbrev pub answer_of_verdict : Result Whole (Refused Refusal) → Answer (Extent × ℕ)
answer_of_verdict (Ok w) = ok (record { extent = w.extent; unjudged = w.unjudged }, w.tail)
answer_of_verdict (Err r) = refused (number r.refusal) r.entry
