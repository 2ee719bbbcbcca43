-- A reading call as a tree of checks, in document 01's order. A check is its own explanation: the field, what is required of it, and the refusal.
use Rattle.std.specs.Prelude.{ℕ, List, Bool, true, false, length, take, leb, eqb, ℤ, pos}
use Rattle.reading.specs.declared.check.Field.{Field}
use Rattle.reading.specs.declared.check.Rule.{Rule}
use Rattle.reading.specs.declared.check.Rule.TheVariants.{Exactly, EqualTo, NotNegative, AtLeast, AtMost, Between, Other}
use Rattle.reading.specs.declared.check.Requirement.TheVariants.{OfTheCall}
use Rattle.reading.specs.Choice.{pick}
use Rattle.reading.specs.Number.{negative, signed}

-- a field of `width` bytes at a place, which hold `value` as an unsigned number
abbrev pub signed_field : ℕ → ℕ → ℕ → Field
signed_field width place value = record { place = place; width = width; sign = true; value = value }

abbrev pub unsigned_field : ℕ → ℕ → ℕ → Field
unsigned_field width place value = record { place = place; width = width; sign = false; value = value }

-- the number that a field holds
abbrev pub field_value : Field → ℤ
field_value f = pick f.sign (signed f.width f.value) (pos f.value)

abbrev pub is_negative : Field → Bool
is_negative f = pick f.sign (negative f.width f.value) false

-- the number that the field holds obeys the rule
unfoldable pub holds : Rule → Field → Bool
holds (Exactly n) field = pick (is_negative field) false (eqb field.value n)
holds (EqualTo n) field = pick (is_negative field) false (eqb field.value n)
holds NotNegative field = pick (is_negative field) false true
holds (AtLeast n) field = pick (is_negative field) false (leb n field.value)
holds (AtMost n) field = pick (is_negative field) true (leb field.value n)
holds (Between m n) field = pick (is_negative field) false (pick (leb m field.value) (leb field.value n) false)
holds (Other requirement met) field = met

-- a test: the field obeys the rule, else the refusal of this number
pub record Test : Type 0 where
  pub field : Field
  pub rule : Rule
  pub number : ℕ

-- a need: the bytes from start to end are present, else refusal 1
pub record Need : Type 0 where
  pub start : ℕ
  pub end : ℕ

-- a test passes: computed from its field and rule
unfoldable pub passes : Test → Bool
unfolding holds
passes t = holds t.rule t.field

pub data Check (A : Type 0) : Type 0 where
  -- every check is passed
  done : A → Check A
  -- a test, reported at an entry or read (0 for the header)
  test : Test → ℕ → Check A → Check A
  -- a need, reported likewise; what follows sees the bytes up to its end only
  bytes : Need → ℕ → (List ℕ → Check A) → Check A

infixl 1 ◌>>=◌ ◌>>◌
-- the checks of t, then those of f
unfoldable pub ◌>>=◌ : {A B : Type 0} → Check A → (A → Check B) → Check B
done a >>= f = f a
test w e t >>= f = test w e (t >>= f)
bytes m e k >>= f = bytes m e (λ l. k l >>= f)

abbrev pub ◌>>◌ : {A B : Type 0} → Check A → Check B → Check B
t >> u = t >>= (λ _. u)

-- one check: the field obeys the rule, else the refusal of this number
unfoldable pub must : Field → Rule → ℕ → Check (Unit {0})
must field rule number = test (record { field = field; rule = rule; number = number }) 0 (done tt)

-- one check: the bytes from start to end are present, else refusal 1; what follows is handed the file up to that end
unfoldable pub need : ℕ → ℕ → Check (List ℕ)
need start end = bytes (record { start = start; end = end }) 0 (λ up_to. done up_to)

-- one check of no field of the file: this holds, else the refusal of this number
abbrev pub provided : Bool → ℕ → Check (Unit {0})
provided met number = must (unsigned_field 0 0 0) (Other OfTheCall met) number

-- the test that fails where it does not hold
abbrev pub failing : ℕ → Test
failing number = record { field = unsigned_field 0 0 0; rule = Other OfTheCall false; number = number }

-- the checks of t, reported at entry or read e
module _ {A : Type 0} (e : ℕ) where
  unfoldable pub at : Check A → Check A
  at (done a) = done a
  at (test w d t) = test w e (at t)
  at (bytes m d k) = bytes m e (λ l. at (k l))

-- what the checks find: a value, the first test that fails, or the first bytes that are not there, with the entry or read
pub data Outcome (A : Type 0) : Type 0 where
  passed : A → Outcome A
  failed : Test → ℕ → Outcome A
  short : Need → ℕ → Outcome A

-- what a call answers: a value, or the refusal's number with the entry or read
pub data Answer (A : Type 0) : Type 0 where
  ok : A → Answer A
  refused : ℕ → ℕ → Answer A

-- the same answer, with f of its value
abbrev pub map_answer : {A B : Type 0} → (A → B) → Answer A → Answer B
map_answer f (ok a) = ok (f a)
map_answer f (refused n e) = refused n e

-- the answer by the number of what the checks find
abbrev pub answer_of_outcome : {A : Type 0} → Outcome A → Answer A
answer_of_outcome (passed a) = ok a
answer_of_outcome (failed w e) = refused w.number e
answer_of_outcome (short m e) = refused 1 e

-- the checks made of a file in their order: f of the value, or g of the first test that fails, or h of the first bytes that are not there
module _ {A B : Type 0} (f : A → B) (g : Test → ℕ → B) (h : Need → ℕ → B) where
  unfoldable pub check : Check A → List ℕ → B
  unfolding ◌>>=◌ must need at passes holds
  check (done a) s = f a
  check (test w e t) s = pick (passes w) (check t s) (g w e)
  check (bytes m e k) s = pick (leb m.end (length s)) (check (k (take m.end s)) s) (h m e)

module _ {A : Type 0} where
  -- the first check that does not hold of the file
  unfoldable pub run : Check A → List ℕ → Outcome A
  unfolding check ◌>>=◌ must need at passes holds
  run t s = check passed failed short t s

  -- what the call answers: the same, by its number
  unfoldable pub answer : Check A → List ℕ → Answer A
  unfolding check ◌>>=◌ must need at passes holds
  answer t s = check ok (λ w e. refused w.number e) (λ m e. refused 1 e) t s
