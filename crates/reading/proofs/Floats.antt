-- Bits of a NaN and of another float, at both formats: `ones` is the largest exponent field, and only a NaN has other digits there.
use mathlib.Core.Path.{◌≡◌, refl, sym, subst}
use mathlib.Core.Bool.{Bool, true, false, not, ◌&&◌}
use Prim.Native.Nat.{ℕ, ◌%◌, ◌/◌}
use borrow.Author.Tests.{eq-eqb, ne_eqb, eqb-true}
use lib.Dec.{T}
use lib.Ieee.{Format, binary32, binary64, nan, of_bits, of_fields, nan_bits, top, hid, ones}

if_then : (p q : Bool) → (p ≡ true → q ≡ true) → T (not (p && not q))
if_then true true h = tt
if_then true false h = subst (λ (x : Bool). T x) (sym (h refl)) tt
if_then false q h = tt

module _ (f : Format) (b : ℕ) where
  pub of_nan : b % top f / hid f ≡ ones f → (b % hid f ≡ 0 → ⊥) → of_bits f b ≡ nan
  unfolding of_bits of_fields
  of_nan e d = go f e d
    where
      go : (g : Format) → b % top g / hid g ≡ ones g → (b % hid g ≡ 0 → ⊥) → of_bits g b ≡ nan
      go binary32 e d = rw (e, ne_eqb (b % hid binary32) 0 d)
      go binary64 e d = rw (e, ne_eqb (b % hid binary64) 0 d)

  pub no_nan : (b % top f / hid f ≡ ones f → b % hid f ≡ 0) → T (not (nan_bits f b))
  unfolding nan_bits
  no_nan h = if_then _ _ (λ e. eq-eqb (b % hid f) 0 (h (eqb-true (b % top f / hid f) (ones f) e)))
