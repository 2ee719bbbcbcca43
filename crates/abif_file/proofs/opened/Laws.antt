-- The calls of an opened file, from the answers of their parts.
use Prim.Native.Nat.{ℕ}
use mathlib.Core.Path.{◌≡◌, refl, sym}
use mathlib.Core.List.{List}
use mathlib.Core.Bool.{Bool, true, false}
use lib.Dec.{eqb}
use borrow.Author.Tests.{eq-eqb, ne_eqb, eqb-true, eqb-false}
use Rattle.reading.specs.Check.{Check, ok, refused, answer, holds}
use Rattle.reading.proofs.Results.{answer_ok}
use Rattle.reading.proofs.Steps.{answer_bind, answer_must}
use Rattle.reading.proofs.Passed.{bind_ok, map_refused, bind_refused, bind_answered}
use Rattle.abif.specs.Directory.{directory, opening}
use Rattle.abif.proofs.directory.Laws.{opened_at}
use Rattle.abif_file.specs.Opened.{same_directory, of_opened}

-- place p and count n against those that opening gives
module _ (s : List ℕ) (p n x y : ℕ) (h : answer opening s ≡ ok (x, y)) where
  pub other_place : (p ≡ x → ⊥) → refused 4 0 ≡ answer (same_directory p n) s
  unfolding same_directory holds
  other_place f = simp (answer_bind, answer_must, (opened_at s x y h).1, ne_eqb p x f)

  module _ (e : p ≡ x) where
    pub other_count : (n ≡ y → ⊥) → refused 4 0 ≡ answer (same_directory p n) s
    unfolding same_directory holds
    other_count f = simp (answer_bind, answer_must, (opened_at s x y h).1, eq-eqb p x e, ne_eqb n y f)

    pub same_both : n ≡ y → ok tt ≡ answer (same_directory p n) s
    unfolding same_directory holds
    same_both f = simp (answer_bind, answer_must, (opened_at s x y h).1, eq-eqb p x e, eq-eqb n y f)

-- a later call t: refused where the place and count are, else what t answers
module _ {A : Type 0} (p n : ℕ) (t : Check A) (s : List ℕ) where
  pub later_refused : (k : ℕ) → refused k 0 ≡ answer (same_directory p n) s → refused k 0 ≡ answer (of_opened p n t) s
  unfolding of_opened
  later_refused k h = bind_refused (same_directory p n) (λ _. t) s k 0 (sym h)

  pub later_same : ok tt ≡ answer (same_directory p n) s → answer t s ≡ answer (of_opened p n t) s
  unfolding of_opened
  later_same h = answer_ok (same_directory p n) s (λ _. t) tt h

-- a later call that answers a value is the call's own
pub later_passed : {A : Type 0} (p n : ℕ) (t : Check A) (s : List ℕ) (v : A) → answer (of_opened p n t) s ≡ ok v → answer t s ≡ ok v
unfolding of_opened
later_passed p n t s v h = (bind_ok (same_directory p n) (λ _. t) s v h).2

-- a later call t of a file that opens with place x and count y, or does not open
module _ {A : Type 0} (t : Check A) (s : List ℕ) where
  module _ (x y : ℕ) (h : answer opening s ≡ ok (x, y)) where
    pub later_with : answer (of_opened x y t) s ≡ answer t s
    unfolding of_opened
    later_with = sym (bind_answered (same_directory x y) (λ _. t) s tt (sym (same_both s x y x y h refl refl)))

    four : (p n : ℕ) → refused 4 0 ≡ answer (same_directory p n) s → answer (of_opened p n t) s ≡ refused 4 0
    unfolding of_opened
    four p n e = sym (bind_refused (same_directory p n) (λ _. t) s 4 0 (sym e))

    pub later_other : (p n : ℕ) → ((p ≡ x) × (n ≡ y) → ⊥) → answer (of_opened p n t) s ≡ refused 4 0
    later_other p n f = go (eqb p x) refl
      where
        go : (b : Bool) → eqb p x ≡ b → answer (of_opened p n t) s ≡ refused 4 0
        go true q =
            let e : p ≡ x = eqb-true p x q in
            four p n (other_count s p n x y h e (λ z. f (e, z)))
        go false q = four p n (other_place s p n x y h (eqb-false p x q))

  pub later_unopened : (k e p n : ℕ) → answer opening s ≡ refused k e → answer (of_opened p n t) s ≡ refused k e
  unfolding opening same_directory of_opened
  later_unopened k e p n h = sym (bind_refused (same_directory p n) (λ _. t) s k e (sym (bind_refused directory _ s k e (map_refused directory (λ d. (d.place, d.count)) s k e h))))
