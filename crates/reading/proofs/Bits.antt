-- The bits of a signed number, at any width, and what casts of it ask and give.
use Prim.Native.Nat.{ℕ, suc, ◌-◌, ◌*◌, ◌<◌, ◌≤◌, ◌^◌}
use mathlib.Core.Path.{◌≡◌, refl, sym, ◌∙◌, ap}
use mathlib.Core.Bool.{Bool, true, false}
use native.Mathlib.Omega.{arith}
use lib.IntN.{ℤ, pos, negsuc, ◌-ℤ◌, nat_abs}
use lib.Signed.{mag, le_z, non_neg}
use lib.Dec.{T, leb, ltb}
use borrow.Author.Tests.{le-leb, lt-leb, lt-ltb, le-ltb}
use Rattle.reading.proofs.Tests.{no}
use Rattle.reading.specs.Choice.{pick}
use Rattle.reading.specs.Number as Number
use Rattle.reading.specs.Number.{signed}
use Rattle.reading.proofs.Signs.{half}
use mir.Syntax.{Width}
use mir.Val.{Fits, SFits, to_z, of_z, hbits, bits}
use mir.Facts.{to_z_pos, to_z-of_z}

-- a number that is not negative
module _ (w v : Width) (b : 2 ^ hbits w ≤ 2 ^ bits v) where
  up : (z : ℤ) → mag z < 2 ^ hbits w → le_z (pos 0) z ≡ true → T (non_neg z) × Fits v (nat_abs z)
  up (pos n) f h = (tt, record { fits = omega arith })
  up (negsuc n) f h = no h

  pub cast_up : (z : ℤ) → SFits w z → le_z (pos 0) (to_z w (of_z w z)) ≡ true → T (non_neg (to_z w (of_z w z))) × Fits v (nat_abs (to_z w (of_z w z)))
  cast_up z f h = rw (to_z-of_z f) (up z f.sfits (rw (to_z-of_z f) at h))

  down : (n : ℕ) → n < 2 ^ hbits w → T (non_neg (to_z w (of_z w (pos n)))) × Fits v (nat_abs (to_z w (of_z w (pos n))))
  down n h = rw (to_z_pos w h) (tt, record { fits = omega arith })

  pub cast_down : (z : ℤ) (n : ℕ) → z ≡ pos n → n < 2 ^ hbits w → T (non_neg (to_z w (of_z w z))) × Fits v (nat_abs (to_z w (of_z w z)))
  cast_down z n e h = rw e (down n h)

same : (w : Width) (z : ℤ) → le_z (pos 0) z ≡ true → nat_abs z ≡ of_z w z
same w (pos n) h = refl
same w (negsuc n) h = no h

module _ (w : Width) (z : ℤ) (f : SFits w z) where
  pub bits_up : le_z (pos 0) (to_z w (of_z w z)) ≡ true → nat_abs (to_z w (of_z w z)) ≡ of_z w z
  bits_up h = rw (to_z-of_z f) (same w z (rw (to_z-of_z f) at h))

flip : (n : ℕ) → negsuc 0 -ℤ negsuc n ≡ pos n
flip n =
    let a : leb (suc (suc n)) 1 ≡ false = lt-leb (suc (suc n)) 1 (omega arith) in
    let b : suc n - 1 ≡ n = omega arith in
    rw (a, b)

below : (w : Width) (z : ℤ) → mag z < 2 ^ hbits w → le_z (pos 0) z ≡ false → (n : ℕ) × (z ≡ negsuc n) × (n < 2 ^ hbits w)
below w (pos n) f h = no (sym h ∙ le-leb 0 n (omega arith))
below w (negsuc n) f h = (n, refl, f)

-- a negative number is -1 - n
module _ (w : Width) (z : ℤ) (f : SFits w z) (h : le_z (pos 0) (to_z w (of_z w z)) ≡ false) where
  pub negative : (n : ℕ) × (z ≡ negsuc n) × (n < 2 ^ hbits w)
  negative = below w z f.sfits (rw (to_z-of_z f) at h)

  pub minus : negsuc 0 -ℤ to_z w (of_z w z) ≡ pos negative.0
  minus = ap (λ (t : ℤ). negsuc 0 -ℤ t) (to_z-of_z f ∙ negative.1) ∙ flip negative.0

  pub minus_fits : SFits w (negsuc 0 -ℤ to_z w (of_z w z))
  minus_fits = rw minus (record { sfits = negative.2 })

  pub minus_is : nat_abs (to_z w (of_z w (negsuc 0 -ℤ to_z w (of_z w z)))) ≡ negative.0
  minus_is = ap (λ (t : ℤ). nat_abs (to_z w (of_z w t))) minus ∙ ap nat_abs (to_z_pos w negative.2)

-- the bits by the definition: w bits of the machine are n bytes
module _ (w : Width) (n : ℕ) (e : bits w ≡ 8 * n) where
  pub of_bits : (z : ℤ) → of_z w z ≡ Number.bits n z
  unfolding Number.bits
  of_bits (pos k) = refl
  of_bits (negsuc k) = rw e

  pub below_bits : (z : ℤ) (k m : ℕ) → z ≡ negsuc k → m ≡ k → 2 ^ (8 * n) - 1 - m ≡ Number.bits n z
  unfolding Number.bits
  below_bits z k m q r = rw (q, r) (omega arith)

-- a signed number is the one whose bytes hold its bits
pub signed_bits : (w : ℕ) (z : ℤ) → 0 < w → mag z < 2 ^ (8 * w - 1) → signed w (Number.bits w z) ≡ z
unfolding Number.bits signed
signed_bits w (pos n) p h = rw (lt-ltb n (2 ^ (8 * w - 1)) h)
signed_bits w (negsuc n) p h =
    let e = half w p in
    let k : 2 ^ (8 * w) - suc (2 ^ (8 * w) - suc n) ≡ n = omega arith in
    rw (le-ltb (2 ^ (8 * w) - suc n) (2 ^ (8 * w - 1)) (omega arith), k)

-- and the bits of the signed number whose bytes hold n are n
module _ (w n : ℕ) (h : n < 2 ^ (8 * w)) where
  picked : (t : Bool) → Number.bits w (pick t (pos n) (negsuc (2 ^ (8 * w) - suc n))) ≡ n
  unfolding Number.bits
  picked true = refl
  picked false = omega arith

  pub bits_signed : Number.bits w (signed w n) ≡ n
  unfolding signed
  bits_signed = picked (ltb n (2 ^ (8 * w - 1)))
