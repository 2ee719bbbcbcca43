-- ABIF: the items that the writer is lent, and their checks in document 01's order.
use Rattle.std.specs.Prelude.{ℕ, zero, suc, ◌+◌, ◌*◌, List, Bool, true, false, not, leb, eqb, ℤ, pos, length, get_or}
use Rattle.std.specs.Borrow.{Bor}
use Rattle.reading.specs.Choice.{pick}
use Rattle.reading.specs.Number.{negative, bits}
use Rattle.reading.specs.Part.{bytes_at}
use Rattle.reading.specs.Check.{Check, done, provided, ◌>>◌}
use Rattle.abif.specs.declared.entry.ElementType.{ElementType}
use Rattle.abif.specs.declared.entry.ElementType.TheVariants.{Listed, Raw, Unknown}
use Rattle.abif.specs.Entry.{type_of}
use Rattle.abif.specs.declared.tag.Tag.{Tag}
use Rattle.abif.specs.Tag.{tag_below}
use Rattle.abif_write.specs.declared.item.Item.{Item}
use Rattle.abif_write.specs.declared.item.LentItems.{LentItems}
use Rattle.abif_write.specs.ItemContents.{contents_hold}

-- the lent item records: element i of each list is record i's name, number, type, count, and the start and length of its part of the data
pub record Records : Type 0 where
  pub names : List ℕ
  pub numbers : List ℤ
  pub types : List ℤ
  pub counts : List ℕ
  pub starts : List ℕ
  pub lengths : List ℕ

abbrev pub records : List ℕ → List ℤ → List ℤ → List ℕ → List ℕ → List ℕ → Records
records names numbers types counts starts lengths =
    record { names = names; numbers = numbers; types = types; counts = counts; starts = starts; lengths = lengths }

-- the records in lent slices
abbrev pub lent_records : Bor (List ℕ) → Bor (List ℤ) → Bor (List ℤ) → Bor (List ℕ) → Bor (List ℕ) → Bor (List ℕ) → Records
lent_records names numbers types counts starts lengths = records names.now numbers.now types.now counts.now starts.now lengths.now

-- the records of the items that the code hands on
abbrev pub records_of : LentItems → Records
records_of items = lent_records items.names items.numbers items.types items.counts items.starts items.lengths

-- the item that record i names; its type by its 16 bits
unfoldable pub item_at : Records → ℕ → Item
item_at r i =
    record {
      name = get_or r.names i 0;
      number = get_or r.numbers i (pos 0);
      element_type = bits 2 (get_or r.types i (pos 0));
      count = get_or r.counts i 0;
      start = get_or r.starts i 0;
      size = get_or r.lengths i 0;
    }

-- the lists of the records are of one length
abbrev pub same_lengths : Records → Bool
same_lengths r =
    pick (eqb (length r.numbers) (length r.names))
    (pick (eqb (length r.types) (length r.names))
    (pick (eqb (length r.counts) (length r.names))
    (pick (eqb (length r.starts) (length r.names))
    (eqb (length r.lengths) (length r.names))
    false) false) false) false

-- an item's part of the data
abbrev pub bytes_of : List ℕ → Item → List ℕ
bytes_of buffer item = bytes_at buffer (record { start = item.start; size = item.size })

-- the writer takes listed types and user types; legacy types are raw bytes too, with codes below those of user types
abbrev pub is_taken : ElementType → ℕ → Bool
is_taken (Listed size) code = true
is_taken Raw code = leb 1024 code
is_taken Unknown code = false

-- the element size that is written; 1 for user types
unfoldable pub written_size : ElementType → ℕ
written_size (Listed size) = size
written_size Raw = 1
written_size Unknown = 0

-- sizes 9: the count and the data size are no negative 32-bit numbers, and agree
unfoldable pub count_check : Item → Check (Unit {0})
count_check item = do
  provided (not (negative 4 item.count)) 9
  provided (not (negative 4 item.size)) 9
  provided (eqb item.size (written_size (type_of item.element_type) * item.count)) 9

-- the checks of an item, but for its order: part outside the buffer 9; legacy, 1023 or unknown type 10; sizes 9; text or date or time rules 11
unfoldable pub item_check : List ℕ → Item → Check (Unit {0})
item_check buffer item = do
  provided (leb (item.start + item.size) (length buffer)) 9
  provided (is_taken (type_of item.element_type) item.element_type) 10
  count_check item
  provided (contents_hold item.element_type item.count (bytes_of buffer item)) 11

-- an item's tag
abbrev pub tag_of : Item → Tag
tag_of item = record { name = item.name; number = item.number }

-- item i is above the item before it; the first has none before it
abbrev pub ordered : (ℕ → Item) → ℕ → Bool
ordered item zero = true
ordered item (suc i) = tag_below (tag_of (item i)) (tag_of (item (suc i)))

-- per item in order, n items from item i on: its checks, then 14 where it is not above the item before it
unfoldable pub items_check : (ℕ → Item) → List ℕ → ℕ → ℕ → Check (Unit {0})
items_check item buffer zero i = done tt
items_check item buffer (suc n) i = do
  item_check buffer (item i)
  provided (ordered item i) 14
  items_check item buffer n (i + 1)
