-- What the results of the code stand for: answers of document 01, and outcomes of its checks.
use Rattle.std.specs.Prelude.{ℕ, ◌≡◌, Result, Ok, Err}
use Rattle.reading.specs.declared.check.Test as code
use Rattle.reading.specs.declared.check.Failure.{Failure}
use Rattle.reading.specs.declared.check.Failure.TheVariants.{Failed, Short}
use Rattle.reading.specs.declared.check.Reason.{Reason}
use Rattle.reading.specs.declared.refusal.Refusal.{Refusal}
use Rattle.reading.specs.declared.refusal.Refusal.TheVariants.{CutShort}
use Rattle.reading.specs.declared.verdict.Whole.{Whole}
use Rattle.reading.specs.declared.verdict.Refused.{Refused}
use Rattle.reading.specs.Check.{Test, Outcome, passed, failed, short, Answer, ok, refused}
use Rattle.reading.specs.Refusal.{number}

-- a test, with its refusal's number
abbrev pub test_of : code.Test Refusal → Test
test_of t = record { field = t.field; rule = t.rule; number = number t.refusal }

-- the refusal of what is wrong: bytes that are missing are refusal 1
abbrev pub refusal_of : Failure Refusal → Refusal
refusal_of (Failed t) = t.refusal
refusal_of (Short p m) = CutShort

-- the same of a type that tells refusals in its own way: gives holds of a refusal and of what tells it
abbrev pub TellsRefusal : {R : Type 0} → (Refusal → R → Type 0) → Failure R → R → Type 0
TellsRefusal gives (Failed t) r = r ≡ t.refusal
TellsRefusal gives (Short p m) r = gives CutShort r

module _ {A : Type 0} where
  -- checks of which each is a test
  abbrev pub outcome_of_tested : Result A (code.Test Refusal) → Outcome A
  outcome_of_tested (Ok a) = passed a
  outcome_of_tested (Err t) = failed (test_of t) 0

  -- what is wrong, found at entry or read e
  abbrev pub outcome_of_failure : Failure Refusal → ℕ → Outcome A
  outcome_of_failure (Failed t) e = failed (test_of t) e
  outcome_of_failure (Short p m) e = short (record { start = p; end = m }) e

  -- checks that are reported at 0
  abbrev pub outcome_of : Result A (Failure Refusal) → Outcome A
  outcome_of (Ok a) = passed a
  outcome_of (Err f) = outcome_of_failure f 0

  -- checks that are reported at an entry or read
  abbrev pub outcome_of_judged : Result A (Reason Refusal) → Outcome A
  outcome_of_judged (Ok a) = passed a
  outcome_of_judged (Err w) = outcome_of_failure w.failure w.entry

  -- what a call answers
  abbrev pub answer_of : Result A Refusal → Answer A
  answer_of (Ok a) = ok a
  answer_of (Err r) = refused (number r) 0

-- judging: the extent and the tail
abbrev pub answer_of_verdict : Result Whole (Refused Refusal) → Answer (ℕ × ℕ)
answer_of_verdict (Ok w) = ok (w.extent, w.tail)
answer_of_verdict (Err r) = refused (number r.refusal) r.entry
