-- ABIF: the file that is made of the items.
use Rattle.std.specs.Prelude.{ℕ, zero, suc, ◌+◌, ◌*◌, List, [], ◌++◌, leb, length}
use Rattle.reading.specs.Choice.{pick}
use Rattle.reading.specs.Check.{Check, done, provided, ◌>>◌}
use Rattle.abif_write.specs.declared.item.Item.{Item}
use Rattle.abif_write.specs.Item.{bytes_of}
use Rattle.abif_write.specs.Entry.{entry_bytes, entry_for, header_bytes}

-- an item's data that stand outside its entry, those of more than 4 bytes
abbrev pub data_outside : List ℕ → Item → List ℕ
data_outside buffer item = pick (leb item.size 4) [] (bytes_of buffer item)

-- the size of what stands outside the entry, of data of this size
abbrev pub size_outside : ℕ → ℕ
size_outside size = pick (leb size 4) 0 size

-- n items from item i on
module _ (item : ℕ → Item) (buffer : List ℕ) where
  -- items over 4 bytes back to back
  unfoldable pub all_data : ℕ → ℕ → List ℕ
  all_data zero i = []
  all_data (suc n) i = data_outside buffer (item i) ++ all_data n (i + 1)

  -- the entries of the directory at this place; x is the place of the first data
  unfoldable pub entries : ℕ → ℕ → ℕ → ℕ → List ℕ
  entries place zero i x = []
  entries place (suc n) i x = entry_bytes (entry_for buffer (item i) (place + 28 * i) x) ++ entries place n (i + 1) (x + size_outside (item i).size)

-- the size of all the data outside the entries
unfoldable pub total_outside : (ℕ → Item) → ℕ → ℕ → ℕ
total_outside item zero i = 0
total_outside item (suc n) i = size_outside (item i).size + total_outside item n (i + 1)

-- where the directory of n items stands: behind the header and the data
abbrev pub directory_place : (ℕ → Item) → ℕ → ℕ
directory_place item n = 128 + total_outside item n 0

-- the file of n items: the header, items over 4 bytes back to back from 128 in order, then the directory
unfoldable pub file : (ℕ → Item) → List ℕ → ℕ → List ℕ
file item buffer n =
    header_bytes n (directory_place item n)
    ++ (all_data item buffer n 0
    ++ entries item buffer (directory_place item n) n 0 128)

-- after all items: over 999 items 5; total over 2,147,483,647 gives 9; room 13
unfoldable pub file_check : (ℕ → Item) → List ℕ → ℕ → ℕ → Check (List ℕ)
file_check item buffer n room = do
  provided (leb n 999) 5
  provided (leb (length (file item buffer n)) 2147483647) 9
  provided (leb (length (file item buffer n)) room) 13
  done (file item buffer n)
