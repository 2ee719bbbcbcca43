-- What private functions ask of their callers. No public call's contract cites this.
use Rattle.std.specs.Prelude.{ℕ, ◌*◌, ◌≤◌, ◌≡◌, List, length}
use Rattle.gtc.specs.Item.{item_end}
use Rattle.gtc_records.specs.declared.snp.SnpArrays.{SnpArrays}
use Rattle.reading.specs.Part.{bytes_at}
use Rattle.reading.specs.Item.{data_span}
use Rattle.gtc_records.specs.declared.snp.SnpElements.{SnpElements}
use Rattle.gtc_records.specs.Snp.{SnpBytes, snp_bytes_of}

-- the five arrays are there
pub record ArraysPresent (s : List ℕ) (arrays : SnpArrays) : Type 0 where
  pub genotypes : item_end arrays.genotypes ≤ length s
  pub base_calls : item_end arrays.base_calls ≤ length s
  pub scores : item_end arrays.scores ≤ length s
  pub x : item_end arrays.x ≤ length s
  pub y : item_end arrays.y ≤ length s

-- the arrays' sizes are those of one element for each SNP
pub record ArraysSized (arrays : SnpArrays) : Type 0 where
  pub genotypes : arrays.genotypes.size ≡ arrays.genotypes.count
  pub base_calls : arrays.base_calls.size ≡ 2 * arrays.genotypes.count
  pub scores : arrays.scores.size ≡ 4 * arrays.genotypes.count
  pub x : arrays.x.size ≡ 2 * arrays.genotypes.count
  pub y : arrays.y.size ≡ 2 * arrays.genotypes.count

-- the elements of the five arrays in s
abbrev pub bytes_in : List ℕ → SnpArrays → SnpBytes
bytes_in s arrays =
    snp_bytes_of
    (bytes_at s (data_span arrays.genotypes))
    (bytes_at s (data_span arrays.base_calls))
    (bytes_at s (data_span arrays.scores))
    (bytes_at s (data_span arrays.x))
    (bytes_at s (data_span arrays.y))

-- the bytes of the elements that a struct of slices lends
abbrev pub elements_in : SnpElements → SnpBytes
elements_in lent = snp_bytes_of lent.genotypes.now lent.base_calls.now lent.scores.now lent.x.now lent.y.now

-- the elements of the first n SNPs are there
pub record ElementsPresent (bytes : SnpBytes) (n : ℕ) : Type 0 where
  pub genotypes : n ≤ length bytes.genotypes
  pub base_calls : 2 * n ≤ length bytes.base_calls
  pub scores : 4 * n ≤ length bytes.scores
  pub x : 2 * n ≤ length bytes.x
  pub y : 2 * n ≤ length bytes.y
