-- Bulk calls, which write many items into a lent list of numbers: as many as are left and as fit.
use Rattle.std.specs.Prelude.{ℕ, ◌+◌, ◌-◌, ◌/◌, min, List, [], ◌∷◌, ◌++◌, length, replicate, leb}
use Rattle.std.proofs.lemmas.List.Edits.{sets}
use Rattle.reading.specs.Choice.{pick}
use Rattle.reading.specs.Check.{Check, Answer, ok, refused, provided}

-- how many of n items are left from number `first` on
abbrev pub left_from : ℕ → ℕ → ℕ
left_from n first = n - (first - 1)

-- how many of the items left fit, where each takes w numbers and there is room for so many
abbrev pub fitting : ℕ → ℕ → ℕ → ℕ
fitting w left room = min left (room / w)

-- not one fits: 13
abbrev pub one_fits : ℕ → ℕ → Check (Unit {0})
one_fits w room = provided (leb w room) 13

module _ {A : Type 0} (w : ℕ) (numbers : A → List ℕ) where
  -- an item's record, w numbers long: 0 and the numbers of what is answered; refused, the refusal's number and zeros
  abbrev pub record_of : Answer A → List ℕ
  record_of (ok a) = 0 ∷ numbers a
  record_of (refused n e) = n ∷ replicate (w - 1) 0

  -- the records of items, one behind the other
  abbrev pub records : List (Answer A) → List ℕ
  records [] = []
  records (a ∷ l) = record_of a ++ records l

-- an answer, or the refusal of an item's own contents
pub data OfItem {A : Type 0} : Answer A → Type 0 where
  answered : (a : A) → OfItem (ok a)
  forbidden : OfItem (refused 11 0)

-- the numbers of l from place p on, where there is room for them
abbrev pub placed : List ℕ → ℕ → List ℕ → List ℕ
placed out p l = pick (leb (p + length l) (length out)) (sets out p l) out
