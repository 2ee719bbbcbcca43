-- Several numbers that are compared with one, by the largest of them.
use Prim.Native.Nat.{ℕ, max}
use mathlib.Core.Path.{◌≡◌, refl}
use mathlib.Core.Bool.{Bool, true, false}
use native.Mathlib.Omega.{arith}
use lib.Dec.{leb}
use borrow.Author.Tests.{le-leb, lt-leb, leb-true, leb-false}
use Rattle.reading.specs.Choice.{pick}

pub pick-max : {A : Type 0} (m k n : ℕ) (x y : A) → pick (leb (max m k) n) x y ≡ pick (leb m n) (pick (leb k n) x y) y
pick-max m k n x y = go (leb m n) refl (leb k n) refl
  where
    go : (a : Bool) → leb m n ≡ a → (b : Bool) → leb k n ≡ b → pick (leb (max m k) n) x y ≡ pick a (pick b x y) y
    go true p true q = rw (le-leb (max m k) n (omega (arith, leb-true m n p, leb-true k n q)))
    go true p false q = rw (lt-leb (max m k) n (omega (arith, leb-false k n q)))
    go false p b q = rw (lt-leb (max m k) n (omega (arith, leb-false m n p)))
