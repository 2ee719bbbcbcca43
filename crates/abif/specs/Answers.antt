-- What the results of the code stand for: answers of document 01, and outcomes of its checks.
use Rattle.std.specs.Prelude.{ℕ, Result, Ok, Err}
use Rattle.reading.specs.declared.check.Failure.{Failure}
use Rattle.reading.specs.declared.refusal.Refusal.{Refusal}
use Rattle.reading.specs.Check.{Outcome, passed, Answer, ok, refused}
use Rattle.reading.specs.Refusal.{number}
use Rattle.reading.specs.Answers.{outcome_of_failure}
use Rattle.abif.specs.declared.directory.Directory.{Directory}

-- the header and directory checks: the directory's place and count
abbrev pub outcome_of_opened : Result Directory (Failure Refusal) → Outcome (ℕ × ℕ)
outcome_of_opened (Ok d) = passed (d.place, d.count)
outcome_of_opened (Err f) = outcome_of_failure f 0

-- opening, the same by the refusal's number
abbrev pub answer_of_opened : Result Directory Refusal → Answer (ℕ × ℕ)
answer_of_opened (Ok d) = ok (d.place, d.count)
answer_of_opened (Err r) = refused (number r) 0
