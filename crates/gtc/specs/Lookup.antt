-- GTC: lookup of an id.
use Rattle.std.specs.Prelude.{ℕ, List, Option, Some, None}
use Rattle.reading.specs.Check.{Check, provided, ◌>>=◌, ◌>>◌}
use Rattle.reading.specs.declared.item.ItemData.{ItemData}
use Rattle.gtc.specs.declared.item.Stored.{Stored}
use Rattle.gtc.specs.declared.item.Stored.TheVariants.{Value}
use Rattle.gtc.specs.Table.{table}
use Rattle.gtc.specs.Entry.{entry_with}
use Rattle.gtc.specs.Item.{listing_of, is_listed, item_check}

-- how a listed id's data are stored; only a listed one is asked for
abbrev pub stored_of : Option Stored → Stored
stored_of (Some stored) = stored
stored_of None = Value

-- lookup of an id whose data are stored so: no entry 7, two or more 8, then the entry's checks
unfoldable pub lookup_listed : Stored → List ℕ → ℕ → ℕ → Check ItemData
lookup_listed stored table count id = do
  entry ← entry_with table count id
  item_check stored table count entry

-- an unlisted id is 10 right after the table's checks
unfoldable pub lookup_in : List ℕ → ℕ → ℕ → Check ItemData
lookup_in table count id = do
  provided (is_listed (listing_of id)) 10
  lookup_listed (stored_of (listing_of id)) table count id

unfoldable pub looking_up : ℕ → Check ItemData
looking_up id = do
  contents ← table
  lookup_in contents.up_to contents.count id
