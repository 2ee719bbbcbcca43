-- ABIF: the elements of a whole-number item, from number `first` on.
use Rattle.std.specs.Prelude.{ℕ, zero, suc, ◌+◌, List, [], ◌∷◌, Bool, ℤ}
use Rattle.reading.specs.Choice.{among, is_number_of}
use Rattle.reading.specs.Check.{Check, done, provided, ◌>>=◌, ◌>>◌}
use Rattle.reading.specs.Bulk.{left_from, fitting, one_fits}
use Rattle.abif.specs.Entry.{type_of}
use Rattle.reading.specs.declared.item.ItemData.{ItemData}
use Rattle.abif.specs.Lookup.{looking_up}
use Rattle.abif_elements.specs.Element.{whole_at, size_of, element_place, item_bytes}

-- the types whose elements are whole numbers: byte, char, word, short, long, pString, cString
unfoldable pub is_whole : ℕ → Bool
is_whole code = among code (1 ∷ 2 ∷ 3 ∷ 4 ∷ 5 ∷ 18 ∷ 19 ∷ [])

-- n whole numbers of this type, so many bytes apart, from place p on
unfoldable pub wholes_at : ℕ → ℕ → List ℕ → ℕ → ℕ → List ℤ
wholes_at code size bytes p zero = []
wholes_at code size bytes p (suc n) = whole_at code bytes p ∷ wholes_at code size bytes (p + size) n

-- other types 10, no such element 12, not one fits 13; then as many as are left and as fit
unfoldable pub numbers_of_item : ItemData → ℕ → ℕ → Check (List ℤ)
numbers_of_item item first room = do
  provided (is_whole item.code) 10
  provided (is_number_of first item.count) 12
  one_fits 1 room
  bytes ← item_bytes item
  done (wholes_at item.code (size_of (type_of item.code)) bytes (element_place item first) (fitting 1 (left_from item.count first) room))

-- the whole numbers of the item with this name and number: lookup first, passing on its refusal
unfoldable pub numbers_reading : ℕ → ℕ → ℕ → ℕ → Check (List ℤ)
numbers_reading name number first room = do
  item ← looking_up name number
  numbers_of_item item first room
