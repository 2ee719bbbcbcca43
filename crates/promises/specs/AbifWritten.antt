-- The round trip of ABIF: a file that was written reads back as the items that were given, none lost and none added.
use Rattle.std.specs.Prelude.{ℕ, ◌-◌, ◌*◌, ◌^◌, ◌<◌, ◌≡◌, List, [], pos, length, get_or}
use Rattle.std.specs.Int.Signed.{mag}
use Rattle.reading.specs.Number.{bits}
use Rattle.reading.specs.Part.{bytes_at}
use Rattle.reading.specs.Item.{data_span}
use Rattle.reading.specs.Check.{ok, refused, answer}
use Rattle.reading.specs.declared.item.ItemData.{ItemData}
use Rattle.abif.specs.Directory.{opening}
use Rattle.abif.specs.Judge.{judging}
use Rattle.abif.specs.Lookup.{looking_up}
use Rattle.abif_write.specs.Item.{Records, item_at, bytes_of}
use Rattle.abif_write.specs.Write.{writing}

-- what is lent fits its types: names of 32 bits, signed numbers of 32 bits, signed types of 16 bits, and bytes (`mag z` is n for n and for -1 - n)
pub record ItemsFitTypes (r : Records) (buffer : List ℕ) : Type 0 where
  pub of_names : (k : ℕ) → get_or r.names k 0 < 2 ^ 32
  pub of_numbers : (k : ℕ) → mag (get_or r.numbers k (pos 0)) < 2 ^ 31
  pub of_types : (k : ℕ) → mag (get_or r.types k (pos 0)) < 2 ^ 15
  pub of_bytes : (i : ℕ) → get_or buffer i 0 < 2 ^ 8

-- lookup of the tag of item k finds its type, its count and just its part of the buffer
pub record FoundAs (r : Records) (buffer file : List ℕ) (k : ℕ) : Type 0 where
  pub found : ItemData
  pub answers : answer (looking_up (item_at r k).name (bits 4 (item_at r k).number)) file ≡ ok found
  pub same_type : found.code ≡ (item_at r k).element_type
  pub same_count : found.count ≡ (item_at r k).count
  pub same_bytes : bytes_at file (data_span found) ≡ bytes_of buffer (item_at r k)

-- no item has the tag of this name and number
abbrev pub NoItemHas : Records → ℕ → ℕ → Type 0
NoItemHas r name number = (k : ℕ) → k < length r.names → ((item_at r k).name ≡ name) × (bits 4 (item_at r k).number ≡ number) → ⊥

-- how the file reads that was written of the lent records and the buffer of their data
pub record HoldsItems (r : Records) (buffer file : List ℕ) : Type 0 where
  -- it is whole, and its extent is its length
  pub whole : answer judging file ≡ ok (length file)
  -- it opens: the directory is the last of it, with one entry for each item
  pub opens : answer opening file ≡ ok (length file - 28 * length r.names, length r.names)
  -- each item is found under its tag, with its type, its count and its part of the buffer
  pub each : (k : ℕ) → k < length r.names → FoundAs r buffer file k
  -- every other tag is refused
  pub only : (name number : ℕ) → NoItemHas r name number → answer (looking_up name number) file ≡ refused 7 0

-- so reads every file that the writer makes
abbrev pub AbifReadsBack : Type 0
AbifReadsBack =
    (r : Records) (buffer : List ℕ) (room : ℕ) (file : List ℕ)
    → ItemsFitTypes r buffer
    → answer (writing r buffer room) [] ≡ ok file
    → HoldsItems r buffer file
