-- The contents of an item, element by element.
use Prim.Native.Nat.{ℕ, suc, ◌+◌, ◌*◌}
use mathlib.Core.Path.{◌≡◌, refl}
use mathlib.Core.List.{List}
use mathlib.Core.Bool.{Bool, true, false}
use borrow.Author.Tests.{ne_eqb}
use Rattle.abif_write.specs.ItemContents.{each_element, contents_hold}

-- a turn of the loop over elements
module _ (rule : ℕ → Bool) (i : ℕ) where
  pub each_next : true ≡ rule (4 * i) → (m : ℕ) → each_element rule (suc m) i ≡ each_element rule m (i + 1)
  unfolding each_element
  each_next e m = rw (← e)

  pub each_stop : false ≡ rule (4 * i) → (m : ℕ) → each_element rule (suc m) i ≡ false
  unfolding each_element
  each_stop e m = rw (← e)

pub each_end : (rule : ℕ → Bool) (i : ℕ) → true ≡ each_element rule 0 i
unfolding each_element
each_end rule i = refl

-- a type that has no rule
pub contents_free : (k n : ℕ) (l : List ℕ) → (k ≡ 10 → ⊥) → (k ≡ 11 → ⊥) → (k ≡ 18 → ⊥) → (k ≡ 19 → ⊥) → true ≡ contents_hold k n l
unfolding contents_hold
contents_free k n l a b c d = rw (ne_eqb k 10 a, ne_eqb k 11 b, ne_eqb k 18 c, ne_eqb k 19 d)
