-- What the arms of a match on a number leave, as facts about lists of numbers.
use Prim.Native.Nat.{ℕ}
use mathlib.Core.Path.{◌≡◌, refl, sym, subst}
use mathlib.Core.Logic.{inl, inr}
use mathlib.Core.List.{List, [], ◌∷◌}
use mathlib.Core.Bool.{Bool, true, false}
use lib.Dec.{eqb}
use borrow.Author.Tests.{eqb-true}
use types.Run.{OneOf}
use Rattle.reading.proofs.Tests.{no}
use Rattle.reading.specs.Choice.{pick, among}

-- P holds of each number of a list
abbrev pub Each : (ℕ → Type 0) → List ℕ → Type 0
Each P [] = Unit {0}
Each P (x ∷ xs) = P x × Each P xs

-- so it holds of one that the arm with these numbers takes, and of one among them
pub one_of : (P : ℕ → Type 0) (xs : List ℕ) → Each P xs → (k : ℕ) → OneOf xs k → P k
one_of P [] e k h = absurd h
one_of P (x ∷ []) e k h = subst P (sym h) e.0
one_of P (x ∷ y ∷ xs) e k (inl h) = subst P (sym h) e.0
one_of P (x ∷ y ∷ xs) e k (inr h) = one_of P (y ∷ xs) e.1 k h

pub among_each : (P : ℕ → Type 0) (k : ℕ) (xs : List ℕ) → Each P xs → among k xs ≡ true → P k
among_each P k [] e h = no h
among_each P k (x ∷ xs) e h = go (eqb k x) refl h (among_each P k xs e.1)
  where
    go : (b : Bool) → eqb k x ≡ b → pick b true (among k xs) ≡ true → (among k xs ≡ true → P k) → P k
    go true q w u = subst P (sym (eqb-true k x q)) e.0
    go false q w u = u w

-- what the last arm knows: k is in no arm before it, of which the latest stands first here
abbrev pub InNone : List (List ℕ) → ℕ → Type 0
InNone [] k = Unit {0}
InNone (xs ∷ arms) k = InNone arms k × (OneOf xs k → ⊥)

-- x is in one of the arms
abbrev pub in_some : ℕ → List (List ℕ) → Bool
in_some x [] = false
in_some x (xs ∷ arms) = pick (among x xs) true (in_some x arms)

takes : (x : ℕ) (xs : List ℕ) → among x xs ≡ true → OneOf xs x
takes x [] h = no h
takes x (y ∷ []) h = go (eqb x y) refl h
  where
    go : (b : Bool) → eqb x y ≡ b → pick b true false ≡ true → x ≡ y
    go true q w = eqb-true x y q
    go false q w = no w
takes x (y ∷ z ∷ xs) h = go (eqb x y) refl h (takes x (z ∷ xs))
  where
    go : (b : Bool) → eqb x y ≡ b → pick b true (among x (z ∷ xs)) ≡ true → (among x (z ∷ xs) ≡ true → OneOf (z ∷ xs) x) → OneOf (y ∷ z ∷ xs) x
    go true q w u = inl (eqb-true x y q)
    go false q w u = inr (u w)

not_in : (arms : List (List ℕ)) (k : ℕ) → InNone arms k → in_some k arms ≡ true → ⊥
not_in [] k r h = no h
not_in (xs ∷ arms) k r h = go (among k xs) refl h (not_in arms k r.0)
  where
    go : (b : Bool) → among k xs ≡ b → pick b true (in_some k arms) ≡ true → (in_some k arms ≡ true → ⊥) → ⊥
    go true q w u = r.1 (takes k xs q)
    go false q w u = u w

-- so k is not among numbers that all are in arms
pub none_of : (arms : List (List ℕ)) (k : ℕ) → InNone arms k → (xs : List ℕ) → Each (λ x. in_some x arms ≡ true) xs → among k xs ≡ false
none_of arms k r [] e = refl
none_of arms k r (x ∷ xs) e = go (eqb k x) refl (none_of arms k r xs e.1)
  where
    go : (b : Bool) → eqb k x ≡ b → among k xs ≡ false → pick b true (among k xs) ≡ false
    go true q u = absurd (not_in arms k r (subst (λ (n : ℕ). in_some n arms ≡ true) (sym (eqb-true k x q)) e.0))
    go false q u = u
