-- ABIF: the elements of an item.
use Rattle.std.specs.Prelude.{ℕ, ◌+◌, ◌-◌, ◌*◌, List, Bool, true, false, not, eqb, ℤ, pos, Float}
use Rattle.std.specs.Float.{binary32, binary64}
use Rattle.std.specs.Float.Ieee.{of_bits}
use Rattle.reading.specs.Choice.{pick, is_number_of}
use Rattle.reading.specs.Number.{be, signed}
use Rattle.reading.specs.declared.item.ItemData.{ItemData}
use Rattle.reading.specs.Check.{Check, done, need, provided, ◌>>=◌, ◌>>◌}
use Rattle.contents.specs.Date.{is_date}
use Rattle.contents.specs.Time.{is_time}
use Rattle.abif.specs.declared.entry.ElementType.{ElementType}
use Rattle.abif.specs.declared.entry.ElementType.TheVariants.{Listed, Raw, Unknown}
use Rattle.abif.specs.Entry.{type_of}
use Rattle.abif.specs.Lookup.{looking_up}

-- what an element is; a float with its bits, which alone tell one NaN from another
pub data Value : Type 0 where
  whole : ℤ → Value
  single : Float → ℕ → Value
  double : Float → ℕ → Value
  date : ℤ → ℕ → ℕ → Value
  time : ℕ → ℕ → ℕ → ℕ → Value
  bool : Bool → Value
  thumb : ℤ → ℤ → ℕ → ℕ → Value

-- the whole number of this type at place p
unfoldable pub whole_at : ℕ → List ℕ → ℕ → ℤ
whole_at code bytes p =
    pick (eqb code 1) (pos (be 1 bytes p))  -- byte
    (pick (eqb code 2) (signed 1 (be 1 bytes p))  -- char
    (pick (eqb code 3) (pos (be 2 bytes p))  -- word
    (pick (eqb code 4) (signed 2 (be 2 bytes p))  -- short
    (pick (eqb code 5) (signed 4 (be 4 bytes p))  -- long
    -- pString and cString elements are their bytes
    (pos (be 1 bytes p))))))

-- a date: i16 year, month, day; 11 where its rule does not hold
unfoldable pub date_at : List ℕ → ℕ → Check Value
date_at bytes p =
    let year = signed 2 (be 2 bytes p) in
    let month = be 1 bytes (p + 2) in
    let day = be 1 bytes (p + 3) in
    do
      provided (is_date year month day) 11
      done (date year month day)

-- a time: hour, minute, second, hundredth; 11 where its rule does not hold
unfoldable pub time_at : List ℕ → ℕ → Check Value
time_at bytes p =
    let hour = be 1 bytes p in
    let minute = be 1 bytes (p + 1) in
    let second = be 1 bytes (p + 2) in
    let hundredth = be 1 bytes (p + 3) in
    do
      provided (is_time hour minute second hundredth) 11
      done (time hour minute second hundredth)

-- a thumb: i32, i32, byte, byte
abbrev pub thumb_at : List ℕ → ℕ → Value
thumb_at bytes p = thumb (signed 4 (be 4 bytes p)) (signed 4 (be 4 bytes (p + 4))) (be 1 bytes (p + 8)) (be 1 bytes (p + 9))

-- the element of this type at place p; floats keep their bits, and a bool of zero is false, all else true
unfoldable pub value_at : ℕ → List ℕ → ℕ → Check Value
value_at code bytes p =
    pick (eqb code 7) (done (single (of_bits binary32 (be 4 bytes p)) (be 4 bytes p)))  -- float
    (pick (eqb code 8) (done (double (of_bits binary64 (be 8 bytes p)) (be 8 bytes p)))  -- double
    (pick (eqb code 10) (date_at bytes p)  -- date
    (pick (eqb code 11) (time_at bytes p)  -- time
    (pick (eqb code 12) (done (thumb_at bytes p))  -- thumb
    (pick (eqb code 13) (done (bool (not (eqb (be 1 bytes p) 0))))  -- bool
    (done (whole (whole_at code bytes p))))))))

-- a listed type; raw bytes have no elements
abbrev pub is_listed : ElementType → Bool
is_listed (Listed size) = true
is_listed Raw = false
is_listed Unknown = false

-- the element size of a listed type
abbrev pub size_of : ElementType → ℕ
size_of (Listed size) = size
size_of Raw = 0
size_of Unknown = 0

-- where element number `index` of an item stands; elements count from one
abbrev pub element_place : ItemData → ℕ → ℕ
element_place item index = item.start + size_of (type_of item.code) * (index - 1)

-- an item's bytes, which lookup has shown to be there
abbrev pub item_bytes : ItemData → Check (List ℕ)
item_bytes item = need item.start (item.start + item.size)

-- raw types 10; index 0 or over the count 12
unfoldable pub element_of : ItemData → ℕ → Check Value
element_of item index = do
  provided (is_listed (type_of item.code)) 10
  provided (is_number_of index item.count) 12
  bytes ← item_bytes item
  value_at item.code bytes (element_place item index)

-- an element of the item with this name and number: lookup first, passing on its refusal
unfoldable pub element_reading : ℕ → ℕ → ℕ → Check Value
element_reading name number index = do
  item ← looking_up name number
  element_of item index
