-- What private functions ask of their callers. No public call's contract cites this.
use Rattle.std.specs.Prelude.{ℕ, ◌+◌, ◌*◌, ◌≤◌, ◌<◌, ◌≡◌, List, true, length}
use Rattle.abif.specs.Entry.{type_of}
use Rattle.abif_write.specs.declared.item.Item.{Item}
use Rattle.abif_write.specs.Item.{Records, item_at, is_taken, written_size}

-- the lists of the records are of one length
pub record SameLengths (r : Records) : Type 0 where
  pub of_numbers : length r.numbers ≡ length r.names
  pub of_types : length r.types ≡ length r.names
  pub of_counts : length r.counts ≡ length r.names
  pub of_starts : length r.starts ≡ length r.names
  pub of_lengths : length r.lengths ≡ length r.names

-- what an item's checks have shown
pub record Sound (buffer : List ℕ) (item : Item) : Type 0 where
  pub present : item.start + item.size ≤ length buffer
  pub taken : is_taken (type_of item.element_type) item.element_type ≡ true
  pub count_fits : item.count < 0x80000000
  pub size_fits : item.size < 0x80000000
  pub sized : item.size ≡ written_size (type_of item.element_type) * item.count

-- every item has passed its checks
pub record Accepted (r : Records) (buffer : List ℕ) : Type 0 where
  pub same_lengths : SameLengths r
  pub sound : (k : ℕ) → k < length r.names → Sound buffer (item_at r k)
