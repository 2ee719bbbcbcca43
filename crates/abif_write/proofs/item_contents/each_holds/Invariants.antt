use Prim.Native.Nat.{ℕ, ◌<◌}
use mathlib.Core.Path.{◌≡◌}
use mathlib.Core.Bool.{Bool}
use Rattle.reading.proofs.Loop.{Left}
use Rattle.abif_write.specs.ItemContents.{each_element}
use Rattle.abif_write.proofs.item_contents.each_holds.Given as goal

abbrev pub invariant-loop-i : goal.invariant-loop-i
invariant-loop-i g l =
    (meant : ℕ → Bool) → ((place : ℕ) (r : Bool) → place < 0x400000000 → goal.F-post g l.rule place r → r ≡ meant place) → Left (λ m. each_element meant m l.i) l.n l.i (each_element meant l.n 0)
