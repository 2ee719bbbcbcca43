-- The verdict on a file: what judging's checks answer, with the tail.
use Rattle.std.specs.Prelude.{ℕ, ◌-◌, List, ◌++◌, length, codes, decimal}
use Rattle.reading.specs.declared.verdict.Refused.{Refused}
use Rattle.reading.specs.declared.refusal.Refusal.{Refusal}
use Rattle.reading.specs.Check.{Check, Answer, ok, refused, map_answer, answer}
use Rattle.reading.specs.Refusal.{number_text}

-- The tail is document 02's term: the bytes after the extent. It is no matter of the checks, but the length less the extent in what they answer.
abbrev pub with_tail : {A : Type 0} → (A → ℕ) → ℕ → Answer A → Answer (A × ℕ)
with_tail extent length = map_answer (λ v. (v, length - extent v))

-- what judging by these checks answers of a file
abbrev pub verdict_of : {A : Type 0} → Check A → (A → ℕ) → List ℕ → Answer (A × ℕ)
verdict_of judging extent s = with_tail extent (length s) (answer judging s)

-- the tail that a verdict tells, 0 on a refusal
abbrev pub tail_of : {A : Type 0} → Answer (A × ℕ) → ℕ
tail_of (ok v) = v.1
tail_of (refused n e) = 0

-- a refused file as a line tells it: "refused", the refusal's number, "at", and the entry or read
abbrev pub refused_text : Refused Refusal → List ℕ
refused_text w = codes "refused " ++ (number_text w.refusal ++ (codes " at " ++ decimal w.entry))
