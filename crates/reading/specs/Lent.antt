-- What a list that a call is lent holds after it.
use Rattle.std.specs.Prelude.{List, ◌++◌, length, drop}
use Rattle.reading.specs.Check.{Answer, ok, refused}

-- what was written, at the front; refused, what the list held
abbrev pub filled : {A : Type 0} → Answer (List A) → List A → List A
filled (ok l) out = l ++ drop (length l) out
filled (refused n e) out = out
