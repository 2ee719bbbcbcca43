-- The bulk calls go by the rule.
use Prim.Native.Nat.{ℕ, zero, suc, ◌+◌, ◌*◌, ◌<◌}
use mathlib.Core.Path.{◌≡◌, refl, sym, ◌∙◌, ap}
use mathlib.Core.Logic.{◌⊎◌, inl, inr}
use mathlib.Core.List.{List, [], ◌∷◌, ◌++◌}
use native.Mathlib.Nat.{add-zero}
use native.Mathlib.Omega.{arith}
use lib.IntN.{ℤ, pos}
use lib.ListN.{length, drop, get_or}
use lib.Seq.{drop-cons}
use Rattle.reading.specs.Check.{Check, ok, answer}
use Rattle.reading.specs.Bulk.{record_of, records, OfItem, answered}
use Rattle.reading.proofs.bulk.Laws.{answers_from}
use Rattle.abif_elements.specs.Element.{whole, element_reading}
use Rattle.abif_elements.proofs.numbers.Numbered.{numbers_of, no_room}
use Rattle.sff.specs.Lookup.{read_reading}
use Rattle.sff_fields.specs.Parts.{read_numbers}
use Rattle.sff_fields.proofs.record.Laws.{record_wide}
use Rattle.sff.proofs.reads.Numbered.{many_fit, many_items, many_own, many_all, many_full}
use Rattle.gtc_records.specs.Snp.{snp_reading}
use Rattle.gtc_records.specs.Snps.{snp_numbers}
use Rattle.gtc_records.proofs.snps.Laws as Snps
use Rattle.gtc_records.proofs.snps.Numbered as Gtc
use Rattle.promises.specs.Bulk.{singles, ByTheRule, whole_number, whole_numbers, reads, snps, bulk_of, BulkRule}

-- records of what is answered one by one
records_singles : {A : Type 0} (w : ℕ) (numbers : A → List ℕ) (t : ℕ → Check A) (s : List ℕ) (n first : ℕ) (f : ℕ → ℕ → List ℕ) → ((first : ℕ) → f first 0 ≡ []) → ((first n : ℕ) → f first (suc n) ≡ record_of w numbers (answer (t first) s) ++ f (first + 1) n) → records w numbers (answers_from t s first n) ≡ f first n
records_singles w numbers t s zero first f a b = sym (a first)
records_singles w numbers t s (suc n) first f a b = ap (λ (l : List ℕ). record_of w numbers (answer (t first) s) ++ l) (records_singles w numbers t s n (first + 1) f a b) ∙ sym (b first n)

reads_rule : ByTheRule (bulk_of reads)
reads_rule =
    record {
      answered = λ s first room v w.
          let k = many_fit s first room v w in
          record {
            some = k.0;
            fit = k.1;
            all = many_all s first room v w;
            each = λ j h. (many_own s first room v w j h, record_wide (answer (read_reading (first + j)) s));
            items = ap (records 17 read_numbers) (many_items s first room v w) ∙ records_singles 17 read_numbers read_reading s (length v) first (singles (bulk_of reads) s) (λ _. refl) (λ _ _. refl);
          };
      full = many_full;
    }

snps_rule : ByTheRule (bulk_of snps)
snps_rule =
    record {
      answered = λ s first room v w.
          let k = Gtc.many_fit s first room v w in
          record {
            some = k.0;
            fit = k.1;
            all = Gtc.many_all s first room v w;
            each = λ j h. (Gtc.many_own s first room v w j h, Snps.record_wide (answer (snp_reading (first + j)) s));
            items = ap (records 9 snp_numbers) (Gtc.many_items s first room v w) ∙ records_singles 9 snp_numbers snp_reading s (length v) first (singles (bulk_of snps) s) (λ _. refl) (λ _ _. refl);
          };
      full = Gtc.many_full;
    }

-- whole numbers that are the elements from number `first` on
module _ (a b : ℕ) (s : List ℕ) where
  abbrev Each : ℕ → List ℤ → Type 0
  Each first v = (j : ℕ) (z : ℤ) (l : List ℤ) → drop j v ≡ z ∷ l → answer (element_reading a b (first + j)) s ≡ ok (whole z)

  element_single : (first : ℕ) (v : List ℤ) → Each first v → (j : ℕ) → j < length v → OfItem (answer (element_reading a b (first + j)) s) × (length (whole_number (answer (element_reading a b (first + j)) s)) ≡ 1)
  element_single first v h j l =
      let e = h j (get_or v j (pos 0)) (drop (suc j) v) (drop-cons v j (pos 0) l) in
      (rw e (answered (whole (get_or v j (pos 0)))), rw e)

  elements_singles : (v : List ℤ) (first : ℕ) → Each first v → v ≡ singles (bulk_of (whole_numbers a b)) s first (length v)
  elements_singles [] first h = refl
  elements_singles (z ∷ v) first h =
      let e : answer (element_reading a b first) s ≡ ok (whole z) = ap (λ (k : ℕ). answer (element_reading a b k) s) (sym (add-zero first)) ∙ h 0 z v refl in
      let f = elements_singles v (first + 1) (λ j y l q. ap (λ (k : ℕ). answer (element_reading a b k) s) (next first j) ∙ h (suc j) y l q) in
      rw e (ap (λ (l : List ℤ). z ∷ l) f)
    where
      next : (m j : ℕ) → m + 1 + j ≡ m + suc j
      next m j = omega arith

full_or_none : {A : Type 0} {room n : ℕ} → (room ≡ n) ⊎ A → (room < 1 * suc n) ⊎ A
full_or_none (inl e) = inl (omega arith)
full_or_none (inr a) = inr a

numbers_rule : (a b : ℕ) → ByTheRule (bulk_of (whole_numbers a b))
numbers_rule a b =
    record {
      answered = λ s first room v w.
          let k = numbers_of s a b first room v w in
          record { some = k.0; fit = omega (arith, k.1); all = full_or_none k.3; each = element_single a b s first v k.2; items = elements_singles a b s v first k.2 };
      full = λ s first room e w. omega (arith, no_room s a b first room e w);
    }

pub bulk_rule : BulkRule
bulk_rule (whole_numbers a b) = numbers_rule a b
bulk_rule reads = reads_rule
bulk_rule snps = snps_rule
