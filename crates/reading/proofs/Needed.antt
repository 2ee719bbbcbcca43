-- How many bytes a call needs.
use Prim.Native.Nat.{ℕ, max}
use mathlib.Core.List.{List}
use lib.ListN.{length, take}
use lib.Dec.{leb}
use Rattle.reading.specs.Choice.{pick}
use Rattle.reading.specs.Check.{Check, done, test, bytes, holds, passes, must, need, at, ◌>>=◌}

module _ {A : Type 0} where
  -- the number of bytes that the checks made on the way to the answer need
  unfoldable pub reach : Check A → List ℕ → ℕ
  unfolding ◌>>=◌ must need at passes holds
  reach (done a) s = 0
  reach (test w e t) s = pick (passes w) (reach t s) 0
  reach (bytes m e k) s = pick (leb m.end (length s)) (max m.end (reach (k (take m.end s)) s)) m.end
