-- GTC: the items of Table 3 and their checks.
use Rattle.std.specs.Prelude.{ℕ, ◌+◌, ◌-◌, ◌*◌, List, [], ◌∷◌, Bool, true, false, eqb, Option, Some, None}
use Rattle.reading.specs.Choice.{pick}
use Rattle.reading.specs.Number.{le}
use Rattle.reading.specs.declared.check.Field.{Field}
use Rattle.reading.specs.declared.check.Rule.TheVariants.{NotNegative, AtLeast, EqualTo}
use Rattle.reading.specs.Check.{Check, signed_field, done, must, need, ◌>>=◌, ◌>>◌}
use Rattle.reading.specs.declared.item.ItemData.{ItemData}
use Rattle.gtc.specs.declared.entry.Entry.{Entry}
use Rattle.gtc.specs.declared.item.Shape.{Shape}
use Rattle.gtc.specs.declared.item.Shape.TheVariants.{Text, Array, SnpArray, Scanner, Block}
use Rattle.gtc.specs.declared.item.Stored.{Stored}
use Rattle.gtc.specs.declared.item.Stored.TheVariants.{Value, Shaped}
use Rattle.gtc.specs.Table.{table_end}
use Rattle.gtc.specs.Entry.{offset_field, entry_with}

-- a row of Table 3: an id, and how its data are stored
pub record Row : Type 0 where
  pub id : ℕ
  pub stored : Stored

abbrev pub row : ℕ → Stored → Row
row id stored = record { id = id; stored = stored }

-- Table 3, with its names. A value stands in the offset field itself. At its offset an id has a string (Text), an array with the width of its elements
-- (Array, and SnpArray with one element for each SNP), the scanner data, or a block of so many bytes.
abbrev pub rows : List Row
rows =
    row 1 Value  -- NumSNPs
    ∷ row 2 Value  -- Ploidy
    ∷ row 3 Value  -- Ploidy Type
    ∷ row 10 (Shaped Text)  -- Sample Name
    ∷ row 11 (Shaped Text)  -- Sample Plate
    ∷ row 12 (Shaped Text)  -- Sample Well
    ∷ row 100 (Shaped Text)  -- Cluster File
    ∷ row 101 (Shaped Text)  -- SNP Manifest
    ∷ row 200 (Shaped Text)  -- Imaging Date
    ∷ row 201 (Shaped Text)  -- AutoCall Date
    ∷ row 300 (Shaped Text)  -- AutoCall Version
    ∷ row 400 (Shaped (Array 52))  -- Normalization Transformations
    ∷ row 500 (Shaped (Array 2))  -- Raw Control X
    ∷ row 501 (Shaped (Array 2))  -- Raw Control Y
    ∷ row 1000 (Shaped (SnpArray 2))  -- Raw X intensity values
    ∷ row 1001 (Shaped (SnpArray 2))  -- Raw Y intensity values
    ∷ row 1002 (Shaped (SnpArray 1))  -- Genotypes
    ∷ row 1003 (Shaped (SnpArray 2))  -- BaseCalls
    ∷ row 1004 (Shaped (SnpArray 4))  -- Genotype Scores
    ∷ row 1005 (Shaped Scanner)  -- Scanner Data
    ∷ row 1006 (Shaped (Block 4))  -- Call Rate
    ∷ row 1007 (Shaped (Block 1))  -- Estimated Gender
    ∷ row 1008 (Shaped (Block 4))  -- LogR Dev
    ∷ row 1009 (Shaped (Block 4))  -- p10GC
    ∷ row 1010 Value  -- DX
    ∷ row 1011 (Shaped (Block 16))  -- Extended sample data
    ∷ row 1012 (Shaped (SnpArray 4))  -- B Allele Frequencies
    ∷ row 1013 (Shaped (SnpArray 4))  -- LogR Ratios
    ∷ row 1014 (Shaped (Block 6))  -- Intensity percentiles (X)
    ∷ row 1015 (Shaped (Block 6))  -- Intensity percentiles (Y)
    ∷ row 1016 (Shaped Text)  -- Sentrix ID
    ∷ []

-- the ids that other rules name
abbrev pub num_snps_id : ℕ
num_snps_id = 1

abbrev pub normalization_transformations_id : ℕ
normalization_transformations_id = 400

abbrev pub raw_xid : ℕ
raw_xid = 1000

abbrev pub raw_yid : ℕ
raw_yid = 1001

abbrev pub genotypes_id : ℕ
genotypes_id = 1002

abbrev pub base_calls_id : ℕ
base_calls_id = 1003

abbrev pub genotype_scores_id : ℕ
genotype_scores_id = 1004

unfoldable pub listing_in : List Row → ℕ → Option Stored
listing_in [] id = None
listing_in (r ∷ rs) id = pick (eqb id r.id) (Some r.stored) (listing_in rs id)

-- what Table 3 says of an id: how its data are stored, or nothing
unfoldable pub listing_of : ℕ → Option Stored
unfolding listing_in
listing_of id = listing_in rows id

abbrev pub is_listed : Option Stored → Bool
is_listed (Some stored) = true
is_listed None = false

-- a string is one length byte, then that many: the end of the one at this place
unfoldable pub string_end : ℕ → Check ℕ
string_end place = do
  bytes ← need place (place + 1)
  _ ← need (place + 1) (place + 1 + le 1 bytes place)
  done (place + 1 + le 1 bytes place)

-- the scanner data behind the name, which ends at this place: green, red, version, user
unfoldable pub scanner_rest : ℕ → Check ℕ
scanner_rest place = do
  _ ← need place (place + 4)
  _ ← need (place + 4) (place + 8)
  user ← string_end (place + 8)
  string_end user

-- the end of the scanner data at this place: the name, then the rest
unfoldable pub scanner_end : ℕ → Check ℕ
scanner_end place = do
  green ← string_end place
  scanner_rest green

-- an array is an i32 count, then elements: the count of the one at this place
abbrev pub count_field : ℕ → ℕ → Field
count_field place elements = signed_field 4 place elements

unfoldable pub array_count : ℕ → Check ℕ
array_count place = do
  bytes ← need place (place + 4)
  must (count_field place (le 4 bytes place)) NotNegative 9
  done (le 4 bytes place)

-- the data of an entry: where they stand, and their count
abbrev pub item_data : Entry → ℕ → ℕ → ℕ → ItemData
item_data entry start size count = record { code = entry.id; count = count; start = start; size = size }

-- the bytes from start to end, which are counted
abbrev pub item_up_to : Entry → ℕ → ℕ → ItemData
item_up_to entry start end = item_data entry start (end - start) (end - start)

-- the end of an item's data
abbrev pub item_end : ItemData → ℕ
item_end item = item.start + item.size

-- so many elements, each of this width, of the array at the entry's offset
unfoldable pub elements_of : ℕ → Entry → ℕ → Check ItemData
elements_of width entry elements = do
  _ ← need (entry.offset + 4) (entry.offset + 4 + width * elements)
  done (item_data entry (entry.offset + 4) (width * elements) elements)

-- the count of the array at this place equals id 1's value: a refusal of looking up id 1 is passed on, unequal 9
unfoldable pub snp_check : List ℕ → ℕ → ℕ → ℕ → Check (Unit {0})
snp_check table count place elements = do
  snps ← entry_with table count num_snps_id
  must (count_field place elements) (EqualTo snps.offset) 9

-- what stands at the entry's offset, from the front
unfoldable pub shape_check : Shape → List ℕ → ℕ → Entry → Check ItemData
shape_check Text table count entry = do
  end ← string_end entry.offset
  done (item_up_to entry (entry.offset + 1) end)
shape_check (Array width) table count entry = do
  elements ← array_count entry.offset
  elements_of width entry elements
shape_check (SnpArray width) table count entry = do
  elements ← array_count entry.offset
  snp_check table count entry.offset elements
  elements_of width entry elements
shape_check Scanner table count entry = do
  end ← scanner_end entry.offset
  done (item_up_to entry entry.offset end)
shape_check (Block size) table count entry = do
  _ ← need entry.offset (entry.offset + size)
  done (item_data entry entry.offset size size)

-- offset negative or below the table's end 6, then what stands there
unfoldable pub shaped_check : Shape → List ℕ → ℕ → Entry → Check ItemData
shaped_check shape table count entry = do
  must (offset_field entry) (AtLeast (table_end count)) 6
  shape_check shape table count entry

-- a value is the offset field itself
abbrev pub value_data : Entry → ItemData
value_data entry = item_data entry (entry.place + 2) 4 4

-- the checks of an entry whose data are stored so, in a table of so many entries
unfoldable pub item_check : Stored → List ℕ → ℕ → Entry → Check ItemData
item_check Value table count entry = done (value_data entry)
item_check (Shaped shape) table count entry = shaped_check shape table count entry
