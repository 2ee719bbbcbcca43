-- GTC: the record of one SNP.
use Rattle.std.specs.Prelude.{ℕ, ◌+◌, ◌-◌, ◌*◌, List, [], ◌∷◌, Bool}
use Rattle.std.specs.Float.{binary32}
use Rattle.std.specs.Float.Ieee.{of_bits}
use Rattle.reading.specs.Choice.{among, is_number_of}
use Rattle.reading.specs.Number.{le}
use Rattle.reading.specs.Check.{Check, done, need, provided, ◌>>=◌, ◌>>◌}
use Rattle.reading.specs.Part.{bytes_at}
use Rattle.reading.specs.declared.item.ItemData.{ItemData}
use Rattle.reading.specs.Item.{data_span}
use Rattle.gtc.specs.Item.{raw_xid, raw_yid, genotypes_id, base_calls_id, genotype_scores_id, item_end}
use Rattle.gtc.specs.Lookup.{looking_up}
use Rattle.gtc_records.specs.declared.snp.SnpArrays.{SnpArrays}
use Rattle.gtc_records.specs.declared.snp.Snp.{Snp}
use Rattle.gtc_records.specs.Genotype.{decoding}

-- genotypes, base calls and scores
unfoldable pub call_arrays : Check (ItemData × ItemData × ItemData)
call_arrays = do
  genotypes ← looking_up genotypes_id
  base_calls ← looking_up base_calls_id
  scores ← looking_up genotype_scores_id
  done (genotypes, base_calls, scores)

-- X and Y intensities
unfoldable pub intensity_arrays : Check (ItemData × ItemData)
intensity_arrays = do
  x ← looking_up raw_xid
  y ← looking_up raw_yid
  done (x, y)

-- the five arrays, looked up in the order genotype, base call, score, X, Y; the first refusal is the answer
unfoldable pub snp_arrays : Check SnpArrays
snp_arrays = do
  c ← call_arrays
  i ← intensity_arrays
  done (record { genotypes = c.0; base_calls = c.1; scores = c.2; x = i.0; y = i.1 })

-- the bytes of the five arrays
pub record SnpBytes : Type 0 where
  pub genotypes : List ℕ
  pub base_calls : List ℕ
  pub scores : List ℕ
  pub x : List ℕ
  pub y : List ℕ

abbrev pub snp_bytes_of : List ℕ → List ℕ → List ℕ → List ℕ → List ℕ → SnpBytes
snp_bytes_of genotypes base_calls scores x y = record { genotypes = genotypes; base_calls = base_calls; scores = scores; x = x; y = y }

-- an array's elements, which are there, as lookup has shown
abbrev pub element_bytes : ItemData → Check (List ℕ)
element_bytes item = do
  bytes ← need item.start (item_end item)
  done (bytes_at bytes (data_span item))

unfoldable pub snp_bytes : SnpArrays → Check SnpBytes
snp_bytes arrays = do
  genotypes ← element_bytes arrays.genotypes
  base_calls ← element_bytes arrays.base_calls
  scores ← element_bytes arrays.scores
  x ← element_bytes arrays.x
  y ← element_bytes arrays.y
  done (snp_bytes_of genotypes base_calls scores x y)

-- a letter of a base call: A, C, G, T or -
unfoldable pub is_base_call : ℕ → Bool
is_base_call letter = among letter (0x41 ∷ 0x43 ∷ 0x47 ∷ 0x54 ∷ 0x2d ∷ [])

-- the record of SNP j, counted from 0: a code over 45 or another letter is 11
unfoldable pub snp_at : SnpBytes → ℕ → Check Snp
snp_at bytes j = do
  genotype ← decoding (le 1 bytes.genotypes j)
  provided (is_base_call (le 1 bytes.base_calls (2 * j))) 11
  provided (is_base_call (le 1 bytes.base_calls (2 * j + 1))) 11
  done
      (record {
        code = le 1 bytes.genotypes j;
        genotype = genotype;
        call_1 = le 1 bytes.base_calls (2 * j);
        call_2 = le 1 bytes.base_calls (2 * j + 1);
        score = of_bits binary32 (le 4 bytes.scores (4 * j));
        score_bits = le 4 bytes.scores (4 * j);
        x = le 2 bytes.x (2 * j);
        y = le 2 bytes.y (2 * j);
      })

-- SNP number index, from one, of the five arrays: index outside 12
unfoldable pub snp_of : SnpArrays → ℕ → Check Snp
snp_of arrays index = do
  provided (is_number_of index arrays.genotypes.count) 12
  bytes ← snp_bytes arrays
  snp_at bytes (index - 1)

unfoldable pub snp_reading : ℕ → Check Snp
snp_reading index = do
  arrays ← snp_arrays
  snp_of arrays index
