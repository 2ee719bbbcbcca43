-- The rule of bulk calls, one for all: they write as many items as are left and as fit; 13 only where not one fits; and item j is what the single call
-- answers for number first + j, the refusal of its own contents included.
use Rattle.std.specs.Prelude.{ℕ, zero, suc, ◌+◌, ◌*◌, ◌≤◌, ◌<◌, ◌≡◌, ◌⊎◌, List, [], ◌∷◌, ◌++◌, ℤ, length}
use Rattle.reading.specs.Check.{Check, Answer, ok, refused, answer}
use Rattle.reading.specs.Bulk.{record_of, records, OfItem}
use Rattle.abif_elements.specs.Element.{Value, whole, single, double, date, time, bool, thumb, element_reading}
use Rattle.abif_elements.specs.Numbers.{numbers_reading}
use Rattle.sff.specs.Lookup.{read_reading}
use Rattle.sff.specs.Reads.{reads_reading}
use Rattle.sff_fields.specs.Parts.{read_numbers}
use Rattle.gtc_records.specs.Snp.{snp_reading}
use Rattle.gtc_records.specs.Snps.{snps_reading, snp_numbers}

-- a bulk call beside the single call
pub record Bulk : Type 1 where
  -- the single call, by the item's number; the refusal of a number that no item has; and the numbers of an item, so many for each
  pub Item : Type 0
  pub one : ℕ → Check Item
  pub absent : ℕ
  pub Number : Type 0
  pub numbers : Answer Item → List Number
  pub width : ℕ
  -- the bulk call, by the first item's number and by how many numbers there is room for; how many items it answers, and what it writes
  pub Items : Type 0
  pub many : (first room : ℕ) → Check Items
  pub count : Items → ℕ
  pub written : Items → List Number

module _ (b : Bulk) (s : List ℕ) where
  -- the numbers of what the single call answers for n items from number `first` on
  abbrev pub singles : (first n : ℕ) → List b.Number
  singles first zero = []
  singles first (suc n) = b.numbers (answer (b.one first) s) ++ singles (first + 1) n

  -- the items v are as many as are left and as fit, and each is what the single call answers
  pub record AsSingles (first room : ℕ) (v : b.Items) : Type 0 where
    pub some : 1 ≤ b.count v
    pub fit : b.width * b.count v ≤ room
    pub all : (room < b.width * suc (b.count v)) ⊎ (answer (b.one (first + b.count v)) s ≡ refused b.absent 0)
    pub each :
        (j : ℕ)
        → j < b.count v
        → OfItem (answer (b.one (first + j)) s) × (length (b.numbers (answer (b.one (first + j)) s)) ≡ b.width)
    pub items : b.written v ≡ singles first (b.count v)

-- a bulk call goes by the rule
pub record ByTheRule (b : Bulk) : Type 0 where
  pub answered : (s : List ℕ) (first room : ℕ) (v : b.Items) → answer (b.many first room) s ≡ ok v → AsSingles b s first room v
  pub full : (s : List ℕ) (first room e : ℕ) → answer (b.many first room) s ≡ refused 13 e → room < b.width

-- the number of an element that is a whole number; any other has none
abbrev pub whole_number : Answer Value → List ℤ
whole_number (ok (whole z)) = z ∷ []
whole_number (ok (single f n)) = []
whole_number (ok (double f n)) = []
whole_number (ok (date y m d)) = []
whole_number (ok (time h m t c)) = []
whole_number (ok (bool b)) = []
whole_number (ok (thumb d u c n)) = []
whole_number (refused n e) = []

-- the bulk calls: the whole numbers of an ABIF item with its tag, the reads of an SFF file, the SNPs of a GTC file
pub data Name : Type 0 where
  whole_numbers : (name number : ℕ) → Name
  reads : Name
  snps : Name

-- a bulk call that answers what the single call does of each item, and writes records of this width
abbrev pub recording : {A : Type 0} → (ℕ → Check A) → ℕ → (ℕ → ℕ → Check (List (Answer A))) → (A → List ℕ) → ℕ → Bulk
recording {A} one absent many numbers width =
    record {
      Item = A;
      one = one;
      absent = absent;
      Number = ℕ;
      numbers = record_of width numbers;
      width = width;
      Items = List (Answer A);
      many = many;
      count = length;
      written = records width numbers;
    }

abbrev pub bulk_of : Name → Bulk
bulk_of (whole_numbers name number) =
    record {
      Item = Value;
      one = element_reading name number;
      absent = 12;
      Number = ℤ;
      numbers = whole_number;
      width = 1;
      Items = List ℤ;
      many = numbers_reading name number;
      count = length;
      written = λ v. v;
    }
bulk_of reads = recording read_reading 7 reads_reading read_numbers 17
bulk_of snps = recording snp_reading 12 snps_reading snp_numbers 9

abbrev pub BulkRule : Type 0
BulkRule = (n : Name) → ByTheRule (bulk_of n)
