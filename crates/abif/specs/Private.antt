-- What private functions ask of their callers. No public call's contract cites this.
use Rattle.std.specs.Prelude.{ℕ, ◌+◌, ◌*◌, ◌≤◌, ◌<◌, ◌≡◌, List, length}
use Rattle.reading.specs.declared.item.ItemData.{ItemData}
use Rattle.abif.specs.declared.entry.ElementType.TheVariants.{Listed}
use Rattle.abif.specs.Entry.{type_of}

-- what the checks have shown of the data that lookup finds in s
pub record Checked (s : List ℕ) (q : ItemData) : Type 0 where
  pub within : q.start + q.size ≤ length s
  pub low : q.start < 0x100000000
  pub sizes : (w : ℕ) → type_of q.code ≡ Listed w → q.size ≡ w * q.count
