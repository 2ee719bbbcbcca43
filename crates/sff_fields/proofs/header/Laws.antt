-- The checks of the header's fields, from what its groups of tests find.
use Prim.Native.Nat.{ℕ}
use mathlib.Core.Path.{◌≡◌, refl}
use mathlib.Core.Bool.{Bool, true, false, not, beq}
use mathlib.Core.List.{List}
use lib.Dec.{eqb}
use Rattle.reading.specs.Choice.{pick}
use Rattle.reading.specs.Check.{Test, passed, failed, run}
use Rattle.reading.proofs.Steps.{run_bind}
use Rattle.sff_fields.specs.declared.header.Header.{Header}
use Rattle.sff_fields.specs.Header.{same_zero, mark_check, length_check, index_check, front_check}

-- both numbers are zero or neither, by the comparison of the two tests
pub same_zero_lem : (offset length : ℕ) → not (not (beq (eqb offset 0) (eqb length 0))) ≡ same_zero offset length
same_zero_lem offset length = go (eqb offset 0) (eqb length 0)
  where
    go : (a b : Bool) → not (not (beq a b)) ≡ pick a b (not b)
    go true true = refl
    go true false = refl
    go false true = refl
    go false false = refl

module _ (mark version code : ℕ) (d : Header) (l : List ℕ) where
  pub front_mark : (t : Test) → run (mark_check mark version) l ≡ failed t 0 → failed t 0 ≡ run (front_check mark version code d) l
  unfolding front_check
  front_mark t h = simp (run_bind, h)

  module _ (m : passed tt ≡ run (mark_check mark version) l) where
    pub front_length : (t : Test) → failed t 0 ≡ run (length_check code d) l → failed t 0 ≡ run (front_check mark version code d) l
    unfolding front_check
    front_length t h = simp (run_bind, ← m, ← h)

    pub front_index : passed tt ≡ run (length_check code d) l → run (index_check d) l ≡ run (front_check mark version code d) l
    unfolding front_check
    front_index h = simp (run_bind, ← m, ← h)
