-- The refusals of the ABIF writer. P is what holds of these, at 0.
use Prim.Native.Nat.{ℕ, zero, suc, ◌+◌}
use mathlib.Core.List.{List}
use lib.IntN.{ℤ}
use Rattle.reading.proofs.Refused.{Refuses, refuses_done, refuses_must, refuses_bind}
use Rattle.abif_write.specs.declared.item.Item.{Item}
use Rattle.abif_write.specs.Item.{records, count_check, item_check, items_check}
use Rattle.abif_write.specs.File.{file_check}
use Rattle.abif_write.specs.Write.{writing}

module _ (P : ℕ → ℕ → Type 0) (s : List ℕ) where
  module _ (sizes : P 9 0) (type : P 10 0) (value : P 11 0) (order : P 14 0) where
    item_refuses : (b : List ℕ) (d : Item) → Refuses P (item_check b d) s
    unfolding item_check count_check
    item_refuses b d = search (refuses_bind, refuses_must, sizes, type, value) depth 14

    items_refuses : (g : ℕ → Item) (b : List ℕ) (m i : ℕ) → Refuses P (items_check g b m i) s
    unfolding items_check
    items_refuses g b zero i = refuses_done P _ s
    items_refuses g b (suc m) i = refuses_bind P _ _ s (item_refuses b (g i)) (λ _ _. refuses_bind P _ _ s (refuses_must P _ _ 14 s (λ _. order)) (λ _ _. items_refuses g b m (i + 1)))

    pub writing_refuses : P 5 0 → P 13 0 → (names : List ℕ) (numbers types : List ℤ) (counts starts lengths b : List ℕ) (room : ℕ) → Refuses P (writing (records names numbers types counts starts lengths) b room) s
    unfolding writing file_check
    writing_refuses many full names numbers types counts starts lengths b room = search (refuses_bind, refuses_must, refuses_done, items_refuses, sizes, many, full) depth 16
