-- ABIF: the writer, as document 01 says it.
use Rattle.std.specs.Prelude.{ℕ, List, length}
use Rattle.reading.specs.Check.{Check, provided, ◌>>◌}
use Rattle.abif_write.specs.Item.{Records, item_at, same_lengths, items_check}
use Rattle.abif_write.specs.File.{file_check}

-- the file of the items that the lent records name, in an output of this room; 9 where the lists of the records are not of one length
unfoldable pub writing : Records → List ℕ → ℕ → Check (List ℕ)
writing r buffer room = do
  provided (same_lengths r) 9
  items_check (item_at r) buffer (length r.names) 0
  file_check (item_at r) buffer (length r.names) room
