-- GTC: judging.
use Rattle.std.specs.Prelude.{ℕ, zero, suc, ◌+◌, List, Bool, not, Option, Some, None}
use Rattle.reading.specs.Choice.{pick}
use Rattle.reading.specs.Number.{le}
use Rattle.reading.specs.declared.check.Rule.TheVariants.{Other}
use Rattle.reading.specs.declared.check.Requirement.TheVariants.{NewId}
use Rattle.reading.specs.Check.{Check, done, must, ◌>>=◌, ◌>>◌}
use Rattle.reading.specs.Entries.{some_with, in_order}
use Rattle.gtc.specs.declared.entry.Entry.{Entry}
use Rattle.gtc.specs.declared.item.Stored.{Stored}
use Rattle.gtc.specs.Table.{table, place_of_entry, table_end}
use Rattle.gtc.specs.Entry.{entry_of, id_field, has_id}
use Rattle.gtc.specs.Item.{listing_of, is_listed, item_check, item_end}

-- one of the first i entries has this id
abbrev pub is_earlier : List ℕ → ℕ → ℕ → Bool
is_earlier table id i = some_with (has_id table id) i

-- judging an entry, which is entry i, counted from 0, by what Table 3 says of its id: the end of its item. An unlisted id is not checked further, and 0
-- stands for its end; else earlier equal id 8, then the item's checks.
unfoldable pub judge_as : Option Stored → List ℕ → ℕ → ℕ → Entry → Check ℕ
judge_as None table count i entry = done 0
judge_as (Some stored) table count i entry = do
  must (id_field entry) (Other NewId (not (is_earlier table entry.id i))) 8
  item ← item_check stored table count entry
  done (item_end item)

unfoldable pub judge_entry : List ℕ → ℕ → ℕ → Check ℕ
judge_entry table count i =
    let entry = entry_of table (place_of_entry i) in
    judge_as (listing_of entry.id) table count i entry

-- the number of entries with an unlisted id among m entries from entry i on
unfoldable pub unjudged_among : List ℕ → ℕ → ℕ → ℕ
unjudged_among table zero i = 0
unjudged_among table (suc m) i = pick (is_listed (listing_of (le 2 table (place_of_entry i)))) 0 1 + unjudged_among table m (i + 1)

-- Whole, extent and unjudged are document 01's terms: a file is whole where judging refuses nothing; its extent is the largest of the table's end and every
-- judged item's end; its unjudged entries are those whose id is not in Table 3.
pub record Extent : Type 0 where
  pub extent : ℕ
  pub unjudged : ℕ

-- judging the entries of a table
unfoldable pub judge_table : List ℕ → ℕ → Check Extent
judge_table table count = do
  extent ← in_order (judge_entry table count) count 0 (table_end count)
  done (record { extent = extent; unjudged = unjudged_among table count 0 })

unfoldable pub judging : Check Extent
judging = do
  contents ← table
  judge_table contents.up_to contents.count

-- the extent in what judging answers
abbrev pub extent_of : Extent → ℕ
extent_of answered = answered.extent
