-- GTC: the SNPs from number `first` on, many at once.
use Rattle.std.specs.Prelude.{ℕ, zero, suc, ◌+◌, ◌-◌, List, [], ◌∷◌}
use Rattle.reading.specs.Choice.{is_number_of}
use Rattle.reading.specs.Check.{Check, Answer, answer, done, provided, ◌>>=◌, ◌>>◌}
use Rattle.reading.specs.Bulk.{left_from, fitting, one_fits, records}
use Rattle.gtc_records.specs.declared.snp.SnpArrays.{SnpArrays}
use Rattle.gtc_records.specs.declared.snp.Snp.{Snp}
use Rattle.gtc_records.specs.Genotype.{ploidy, b_alleles}
use Rattle.gtc_records.specs.Snp.{snp_arrays, SnpBytes, snp_bytes, snp_at}

-- a SNP's record in the output: the refusal's number, or 0, and eight numbers
abbrev pub snp_width : ℕ
snp_width = 9

-- what is answered of n SNPs from SNP j on, counted from 0; their bytes are there already, so no file is looked at
unfoldable pub snps_at : SnpBytes → ℕ → ℕ → List (Answer Snp)
snps_at bytes zero j = []
snps_at bytes (suc n) j = answer (snp_at bytes j) [] ∷ snps_at bytes n (j + 1)

-- no such element 12, not one fits 13, then as many as are left and as fit
unfoldable pub snps_of : SnpArrays → ℕ → ℕ → Check (List (Answer Snp))
snps_of arrays first room = do
  provided (is_number_of first arrays.genotypes.count) 12
  one_fits snp_width room
  bytes ← snp_bytes arrays
  done (snps_at bytes (fitting snp_width (left_from arrays.genotypes.count first) room) (first - 1))

unfoldable pub snps_reading : ℕ → ℕ → Check (List (Answer Snp))
snps_reading first room = do
  arrays ← snp_arrays
  snps_of arrays first room

-- the numbers of a SNP's record behind its refusal's, 8 of them
abbrev pub snp_numbers : Snp → List ℕ
snp_numbers snp =
    snp.code
    ∷ ploidy snp.genotype
    ∷ b_alleles snp.genotype
    ∷ snp.call_1
    ∷ snp.call_2
    ∷ snp.score_bits
    ∷ snp.x
    ∷ snp.y
    ∷ []

-- the records of SNPs, one behind the other
abbrev pub snp_records : List (Answer Snp) → List ℕ
snp_records = records snp_width snp_numbers
