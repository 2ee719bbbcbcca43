-- The refusals of the calls of SNP records and transformations. P is what holds of these, their numbers and their entries.
use Prim.Native.Nat.{ℕ}
use mathlib.Core.Path.{◌≡◌}
use mathlib.Core.Bool.{false}
use mathlib.Core.List.{List}
use lib.Dec.{leb}
use Rattle.reading.specs.Check.{holds}
use Rattle.reading.proofs.Refused.{Refuses, refuses_done, refuses_must, refuses_need, refuses_bind}
use Rattle.gtc_records.specs.declared.snp.SnpArrays.{SnpArrays}
use Rattle.gtc.specs.Lookup.{looking_up}
use Rattle.gtc_records.specs.Genotype.{decoding}
use Rattle.gtc_records.specs.Snp.{call_arrays, intensity_arrays, snp_arrays, SnpBytes, snp_bytes, snp_at, snp_of, snp_reading}
use Rattle.gtc_records.specs.Snps.{snps_of, snps_reading}
use Rattle.gtc_records.specs.Transformation.{transformation_of, transformation_reading}
use Rattle.gtc.proofs.Refused.{lookup_refuses}

module _ (P : ℕ → ℕ → Type 0) (s : List ℕ) where
  pub record_refuses : P 11 0 → (b : SnpBytes) (j : ℕ) → Refuses P (snp_at b j) s
  unfolding snp_at decoding
  record_refuses a b j = search (refuses_bind, refuses_must, refuses_done, a) depth 14

module _ (P : ℕ → ℕ → Type 0) (s : List ℕ) (cut : P 1 0) where
  pub bytes_refuses : (a : SnpArrays) → Refuses P (snp_bytes a) s
  unfolding snp_bytes
  bytes_refuses a = search (refuses_bind, refuses_need, refuses_done, cut) depth 14

module _ (P : ℕ → ℕ → Type 0) (s : List ℕ) (cut : P 1 0) (mark : P 2 0) (version : P 3 0) (negative : P 4 0) (many : P 5 0) (offset : P 6 0) (absent : P 7 0) (twice : P 8 0) (count : P 9 0) (unlisted : P 10 0) where
  found_refuses : (k : ℕ) → Refuses P (looking_up k) s
  found_refuses k = lookup_refuses P s cut mark version negative many offset absent twice count unlisted k

  pub arrays_refuses : Refuses P snp_arrays s
  unfolding snp_arrays call_arrays intensity_arrays
  arrays_refuses = search (refuses_bind, found_refuses, refuses_done) depth 14

  module _ (none-such : P 12 0) where
    pub snp_refuses : P 11 0 → (i : ℕ) → Refuses P (snp_reading i) s
    unfolding snp_reading snp_of
    snp_refuses contents i = search (refuses_bind, refuses_must, arrays_refuses, bytes_refuses, record_refuses, contents, cut, none-such) depth 14

    pub snps_refuses : (first room : ℕ) → (leb 9 room ≡ false → P 13 0) → Refuses P (snps_reading first room) s
    unfolding snps_reading snps_of holds
    snps_refuses first room full = search (refuses_bind, refuses_must, arrays_refuses, bytes_refuses, refuses_done, full, cut, none-such) depth 14

    pub transformation_refuses : (k : ℕ) → Refuses P (transformation_reading k) s
    unfolding transformation_reading transformation_of
    transformation_refuses k = search (refuses_bind, refuses_must, refuses_need, found_refuses, refuses_done, cut, none-such) depth 14
