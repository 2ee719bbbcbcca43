-- The records of many SNPs.
use Prim.Native.Nat.{ℕ, zero, suc, ◌+◌, ◌-◌, ◌*◌, ◌/◌, ◌≤◌, ◌<◌}
use mathlib.Core.Path.{◌≡◌, refl, sym, ◌∙◌, ap, subst}
use mathlib.Core.Bool.{true, false}
use mathlib.Core.List.{List, [], ◌++◌}
use native.Mathlib.Omega.{arith}
use lib.ListN.{length, drop}
use lib.Seq.{sets}
use borrow.Author.Tests.{le-leb, lt-leb}
use Rattle.reading.specs.Choice.{is_number_of}
use Rattle.reading.specs.Check.{Answer, ok, refused, answer, map_answer, holds}
use Rattle.reading.specs.Lent.{filled}
use Rattle.reading.specs.Bulk.{left_from, fitting, record_of}
use Rattle.reading.proofs.Steps.{answer_bind, answer_must, answer_done}
use Rattle.reading.proofs.bulk.Laws as Bulk
use Rattle.reading.proofs.Fill.{Filling, fill_start, fill_record}
use Rattle.gtc_records.specs.declared.snp.SnpArrays.{SnpArrays}
use Rattle.gtc_records.specs.declared.snp.Snp.{Snp}
use Rattle.gtc_records.specs.Snp.{SnpBytes, snp_at}
use Rattle.gtc_records.specs.Private.{ArraysPresent}
use Rattle.gtc_records.specs.Snps.{snp_width, snps_at, snp_numbers, snp_records, snps_of}
use Rattle.gtc_records.specs.Private.{bytes_in}
use Rattle.gtc_records.proofs.snp.Laws.{bytes_present}

-- a record is nine numbers long
pub record_wide : (r : Answer Snp) → length (record_of snp_width snp_numbers r) ≡ 9
record_wide = Bulk.record_wide 9 snp_numbers (omega arith) (λ _. refl)

records_length : (v : List (Answer Snp)) → length (snp_records v) ≡ 9 * length v
records_length = Bulk.records_length 9 snp_numbers (omega arith) (λ _. refl)

pub length_snps : (b : SnpBytes) (n j : ℕ) → length (snps_at b n j) ≡ n
unfolding snps_at
length_snps b zero j = refl
length_snps b (suc n) j = ap suc (length_snps b n (j + 1))

-- a loop that fills the output with records: what m places hold from SNP k on
abbrev pub ahead : SnpBytes → ℕ → ℕ → List ℕ
ahead b k m = snp_records (snps_at b (m / 9) k)

module _ (b : SnpBytes) where
  pub fill_first : (n j : ℕ) (o : List ℕ) → 9 * n ≤ length o → Filling (ahead b j) (9 * n) 0 o o (snp_records (snps_at b n j) ++ drop (9 * n) o)
  fill_first n j o h =
      let e : 9 * n / 9 ≡ n = omega arith in
      subst (λ (i : ℕ). Filling (ahead b j) (9 * n) 0 o o (snp_records (snps_at b i j) ++ drop (9 * n) o)) e (fill_start (ahead b j) (9 * n) o h)

  -- SNP k, in the record at any place
  pub fill_at : (k n i : ℕ) (o out whole : List ℕ) → Filling (ahead b k) n i o out whole → i + 9 ≤ n → Filling (ahead b (k + 1)) n (i + 9) o (sets out i (record_of snp_width snp_numbers (answer (snp_at b k) []))) whole
  unfolding snps_at
  fill_at k n i o out whole f h =
      let r = answer (snp_at b k) [] in
      fill_record (ahead b k) n i o out whole f (record_of snp_width snp_numbers r) 9 (record_wide r) h (ahead b (k + 1)) (λ m. let q : (9 + m) / 9 ≡ suc (m / 9) = omega arith in rw q)

  -- SNP j + i, in the record behind those of i SNPs
  pub fill_snp : (j n i : ℕ) (o out whole : List ℕ) → Filling (ahead b (j + i)) (9 * n) (9 * i) o out whole → i < n → Filling (ahead b (j + (i + 1))) (9 * n) (9 * (i + 1)) o (sets out (9 * i) (record_of snp_width snp_numbers (answer (snp_at b (j + i)) []))) whole
  fill_snp j n i o out whole f h =
      let k : j + (i + 1) ≡ j + i + 1 = omega arith in
      let p : 9 * (i + 1) ≡ 9 * i + 9 = omega arith in
      rw (k, p) (fill_at (j + i) (9 * n) (9 * i) o out whole f (omega arith))

-- there is no such SNP
pub of_none : (s : List ℕ) (a : SnpArrays) (first : ℕ) → is_number_of first a.genotypes.count ≡ false → (room : ℕ) → answer (snps_of a first room) s ≡ refused 12 0
unfolding snps_of holds
of_none s a first f room = simp (answer_bind, answer_must, f)

-- not one SNP fits
pub of_small : (s : List ℕ) (a : SnpArrays) (first : ℕ) → is_number_of first a.genotypes.count ≡ true → (room : ℕ) → room < 9 → answer (snps_of a first room) s ≡ refused 13 0
unfolding snps_of holds
of_small s a first f room r = simp (answer_bind, answer_must, f, lt-leb 9 room r)

-- the SNPs of the five arrays from number `first` on
module _ (s : List ℕ) (a : SnpArrays) (p : ArraysPresent s a) (first : ℕ) (f : is_number_of first a.genotypes.count ≡ true) (out : List ℕ) (r : 9 ≤ length out) where
  abbrev many : ℕ
  many = fitting 9 (left_from a.genotypes.count first) (length out)

  of_ok : answer (snps_of a first (length out)) s ≡ ok (snps_at (bytes_in s a) many (first - 1))
  unfolding snps_of holds
  of_ok = simp (answer_bind, answer_must, answer_done, f, le-leb 9 (length out) r, bytes_present s a p)

  -- what is answered, and what the output then holds
  pub of_put : (out' : List ℕ) → out' ≡ snp_records (snps_at (bytes_in s a) many (first - 1)) ++ drop (9 * many) out → (ok many ≡ map_answer length (answer (snps_of a first (length out)) s)) × (out' ≡ filled (map_answer snp_records (answer (snps_of a first (length out)) s)) out)
  of_put out' c =
      let n = length_snps (bytes_in s a) many (first - 1) in
      (rw of_ok (ap ok (sym n)), c ∙ rw (of_ok, records_length (snps_at (bytes_in s a) many (first - 1)), n))
