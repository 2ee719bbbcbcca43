-- What the calls of SNP records and transformations need: no more than judging.
use Prim.Native.Nat.{ℕ, ◌≤◌}
use mathlib.Core.Path.{◌≡◌}
use mathlib.Core.List.{List}
use Rattle.reading.specs.Check.{ok, answer}
use Rattle.reading.proofs.Needed.{reach}
use Rattle.reading.proofs.Reach.{reach_under, reach_must_under, reach_need_under, reach_done_under}
use Rattle.reading.specs.declared.item.ItemData.{ItemData}
use Rattle.gtc_records.specs.declared.snp.SnpArrays.{SnpArrays}
use Rattle.gtc.specs.Judge.{Extent, judging}
use Rattle.gtc.specs.Lookup.{looking_up}
use Rattle.gtc_records.specs.Genotype.{decoding}
use Rattle.gtc_records.specs.Snp.{call_arrays, intensity_arrays, snp_arrays, element_bytes, SnpBytes, snp_bytes, snp_at, snp_of, snp_reading}
use Rattle.gtc_records.specs.Snps.{snps_of, snps_reading}
use Rattle.gtc_records.specs.Transformation.{transformation_of, transformation_reading}
use Rattle.gtc_records.proofs.snp.Laws.{looked}
use Rattle.gtc.specs.Item.{raw_xid, raw_yid, genotypes_id, base_calls_id, genotype_scores_id, normalization_transformations_id}
use Rattle.gtc.proofs.Reach.{lookup_under, found_under}

-- a call that looks up the SNPs' arrays, then reads their elements
arrays_under : (s : List ℕ) (v : Extent) → answer judging s ≡ ok v → reach snp_arrays s ≤ v.extent
unfolding snp_arrays call_arrays intensity_arrays
arrays_under s v w =
    let x = v.extent in
    reach_under x _ _ s
    (reach_under x _ _ s (lookup_under genotypes_id s v w) (λ _ _.
    reach_under x _ _ s (lookup_under base_calls_id s v w) (λ _ _.
    reach_under x _ _ s (lookup_under genotype_scores_id s v w) (λ _ _. reach_done_under x _ s))))
    (λ _ _.
    reach_under x _ _ s
    (reach_under x _ _ s (lookup_under raw_xid s v w) (λ _ _.
    reach_under x _ _ s (lookup_under raw_yid s v w) (λ _ _. reach_done_under x _ s)))
    (λ _ _. reach_done_under x _ s))

elements_under : (k : ℕ) (s : List ℕ) (v : Extent) → answer judging s ≡ ok v → (q : ItemData) → answer (looking_up k) s ≡ ok q → reach (element_bytes q) s ≤ v.extent
elements_under k s v w q e = reach_under _ _ _ s (reach_need_under _ _ _ s (found_under k s v w q e)) (λ _ _. reach_done_under _ _ s)

bytes_under : (a : SnpArrays) (s : List ℕ) (v : Extent) → answer judging s ≡ ok v → answer snp_arrays s ≡ ok a → reach (snp_bytes a) s ≤ v.extent
unfolding snp_bytes
bytes_under a s v w e =
    let x = v.extent in
    let l = looked s a e in
    reach_under x _ _ s (elements_under genotypes_id s v w _ l.genotypes) (λ _ _.
    reach_under x _ _ s (elements_under base_calls_id s v w _ l.base_calls) (λ _ _.
    reach_under x _ _ s (elements_under genotype_scores_id s v w _ l.scores) (λ _ _.
    reach_under x _ _ s (elements_under raw_xid s v w _ l.x) (λ _ _.
    reach_under x _ _ s (elements_under raw_yid s v w _ l.y) (λ _ _. reach_done_under x _ s)))))

record_under : (x : ℕ) (b : SnpBytes) (j : ℕ) (s : List ℕ) → reach (snp_at b j) s ≤ x
unfolding snp_at decoding
record_under x b j s =
    reach_under x _ _ s (reach_under x _ _ s (reach_must_under x _ _ _ s) (λ _ _. reach_done_under x _ s)) (λ _ _.
    reach_under x _ _ s (reach_must_under x _ _ _ s) (λ _ _.
    reach_under x _ _ s (reach_must_under x _ _ _ s) (λ _ _. reach_done_under x _ s)))

pub snp_under : (i : ℕ) (s : List ℕ) (v : Extent) → answer judging s ≡ ok v → reach (snp_reading i) s ≤ v.extent
unfolding snp_reading snp_of
snp_under i s v w =
    let x = v.extent in
    reach_under x _ _ s (arrays_under s v w) (λ a e.
    reach_under x _ _ s (reach_must_under x _ _ _ s) (λ _ _.
    reach_under x _ _ s (bytes_under a s v w e) (λ b _. record_under x b _ s)))

pub snps_under : (i r : ℕ) (s : List ℕ) (v : Extent) → answer judging s ≡ ok v → reach (snps_reading i r) s ≤ v.extent
unfolding snps_reading snps_of
snps_under i r s v w =
    let x = v.extent in
    reach_under x _ _ s (arrays_under s v w) (λ a e.
    reach_under x _ _ s (reach_must_under x _ _ _ s) (λ _ _.
    reach_under x _ _ s (reach_must_under x _ _ _ s) (λ _ _.
    reach_under x _ _ s (bytes_under a s v w e) (λ _ _. reach_done_under x _ s))))

pub transformation_under : (k : ℕ) (s : List ℕ) (v : Extent) → answer judging s ≡ ok v → reach (transformation_reading k) s ≤ v.extent
unfolding transformation_reading transformation_of
transformation_under k s v w =
    let x = v.extent in
    reach_under x _ _ s (lookup_under normalization_transformations_id s v w) (λ q e.
    reach_under x _ _ s (reach_must_under x _ _ _ s) (λ _ _.
    reach_under x _ _ s (reach_need_under x _ _ s (found_under normalization_transformations_id s v w q e)) (λ _ _. reach_done_under x _ s)))
