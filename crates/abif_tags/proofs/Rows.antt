-- A rule of a table, by one test that is computed over all its rows or all its pairs of rows.
use Prim.Native.Nat.{ℕ, zero, suc, ◌<◌}
use mathlib.Core.Path.{◌≡◌, refl}
use mathlib.Core.Bool.{Bool, true, false}
use mathlib.Core.List.{List, [], ◌∷◌}
use native.Mathlib.Omega.{arith}
use lib.ListN.{length, get_or}
use Rattle.reading.specs.Choice.{pick}
use Rattle.reading.proofs.Tests.{no}

-- what both parts of a test say
pub first_part : (a b : Bool) → pick a b false ≡ true → a ≡ true
first_part true b h = refl
first_part false b h = h

pub second_part : (a b : Bool) → pick a b false ≡ true → b ≡ true
second_part true b h = h
second_part false b h = no h

module _ {A : Type 0} where
  -- a test of every row
  abbrev pub every : (A → Bool) → List A → Bool
  every f [] = true
  every f (x ∷ l) = pick (f x) (every f l) false

  pub every_at : (f : A → Bool) (l : List A) → every f l ≡ true → (d : A) → f d ≡ true → (k : ℕ) → f (get_or l k d) ≡ true
  every_at f [] h d e k = e
  every_at f (x ∷ l) h d e zero = first_part (f x) (every f l) h
  every_at f (x ∷ l) h d e (suc k) = every_at f l (second_part (f x) (every f l) h) d e k

  pub every_in : (f : A → Bool) (l : List A) → every f l ≡ true → (d : A) (k : ℕ) → k < length l → f (get_or l k d) ≡ true
  every_in f [] h d k q = absurd (omega arith)
  every_in f (x ∷ l) h d zero q = first_part (f x) (every f l) h
  every_in f (x ∷ l) h d (suc k) q = every_in f l (second_part (f x) (every f l) h) d k (omega arith)

  -- a test of every row with each behind it
  abbrev pub pairs : (A → A → Bool) → List A → Bool
  pairs f [] = true
  pairs f (x ∷ l) = pick (every (f x) l) (pairs f l) false

  pub pairs_at : (f : A → A → Bool) (l : List A) → pairs f l ≡ true → (d : A) (j k : ℕ) → j < k → k < length l → f (get_or l j d) (get_or l k d) ≡ true
  pairs_at f [] h d j k p q = absurd (omega arith)
  pairs_at f (x ∷ l) h d zero zero p q = absurd (omega arith)
  pairs_at f (x ∷ l) h d zero (suc k) p q = every_in (f x) l (first_part (every (f x) l) (pairs f l) h) d k (omega arith)
  pairs_at f (x ∷ l) h d (suc j) zero p q = absurd (omega arith)
  pairs_at f (x ∷ l) h d (suc j) (suc k) p q = pairs_at f l (second_part (every (f x) l) (pairs f l) h) d j k (omega arith) (omega arith)
