-- The reading calls of a format, as demands 1 and 3 speak of them.
use Rattle.std.specs.Prelude.{ℕ, List, []}
use Rattle.reading.specs.Check.{Check}
use Rattle.reading.specs.declared.part.Span.{Span}

-- a call with all that it is given beside the file
pub record ReadingCall : Type 1 where
  -- what it answers where it refuses nothing
  pub Value : Type 0
  pub checks : Check Value
  -- the part of the file that it hands back
  pub span : Value → Span
  -- the list that it is lent beside the file, and what it writes to the front of it
  pub Record : Type 0
  pub lent : List Record
  pub writes : Value → List Record

-- no bytes from place 0 on
abbrev pub no_span : Span
no_span = record { start = 0; size = 0 }

-- a call that hands back a part
abbrev pub handing : {A : Type 0} → Check A → (A → Span) → ReadingCall
handing {A} t q = record { Value = A; checks = t; span = q; Record = ℕ; lent = []; writes = λ _. [] }

-- a call that hands back none, and is lent no list
abbrev pub plain : {A : Type 0} → Check A → ReadingCall
plain t = handing t (λ _. no_span)

-- a call that is lent a list, and what it writes of its answer
abbrev pub filling : {A B : Type 0} → Check A → (A → List B) → List B → ReadingCall
filling {A} {B} t items out = record { Value = A; checks = t; span = λ _. no_span; Record = B; lent = out; writes = items }

-- the reading calls of a format
pub record Format : Type 1 where
  pub Call : Type 0
  pub call : Call → ReadingCall
  -- judging, and the extent in what it answers
  pub judging : Call
  pub extent : (call judging).Value → ℕ
