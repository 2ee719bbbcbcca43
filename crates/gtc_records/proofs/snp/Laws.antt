-- The SNPs' arrays and records, from the answers of their parts.
use Prim.Native.Nat.{ℕ, ◌+◌, ◌-◌, ◌*◌, ◌≤◌}
use mathlib.Core.Path.{◌≡◌, refl, ◌∙◌, ap}
use mathlib.Core.List.{List}
use mathlib.Core.Bool.{true, false}
use native.Mathlib.Nat.{add-sub_cancel_left}
use native.Mathlib.Omega.{arith}
use lib.ListN.{length, take, drop, length-take, length-drop}
use Rattle.reading.specs.Choice.{is_number_of}
use Rattle.reading.specs.Number.{le}
use Rattle.reading.specs.Refusal.{number}
use Rattle.reading.specs.declared.refusal.Refusal.{Refusal}
use Rattle.reading.specs.Check.{ok, refused, answer, holds, need}
use Rattle.reading.proofs.Results.{answer_refused}
use Rattle.reading.proofs.Steps.{answer_bind, answer_must, answer_done, answer_need_present}
use Rattle.reading.specs.Part.{Part, bytes_at}
use Rattle.reading.specs.Item.{data_span}
use Rattle.reading.proofs.Passed.{bind_ok, done_ok}
use Rattle.reading.proofs.Parts.{part_kept}
use Rattle.reading.specs.declared.item.ItemData.{ItemData}
use Rattle.std.specs.Prelude.{Float}
use Rattle.std.specs.Float.{binary32}
use Rattle.std.specs.Float.Ieee.{of_bits}
use Rattle.gtc_records.specs.declared.snp.SnpArrays.{SnpArrays}
use Rattle.gtc_records.specs.declared.genotype.Genotype.{Genotype}
use Rattle.gtc_records.specs.Genotype.{decoding}
use Rattle.gtc.specs.Item.{listing_of, raw_xid, raw_yid, genotypes_id, base_calls_id, genotype_scores_id, item_end}
use Rattle.gtc.specs.Lookup.{looking_up}
use Rattle.gtc.proofs.Arrays.{of_snps, same_count}
use Rattle.gtc.proofs.lookup.Laws.{lookup_within}
use Rattle.gtc_records.specs.Snp.{call_arrays, intensity_arrays, snp_arrays, SnpBytes, snp_bytes, is_base_call, snp_at, snp_of}
use Rattle.gtc_records.specs.Private.{bytes_in, ArraysPresent, ArraysSized, ElementsPresent}

-- an array's elements, cut out of the file
pub part_elements : (s : List ℕ) (q : ItemData) → take (item_end q - q.start) (drop q.start s) ≡ bytes_at s (data_span q)
part_elements s q = rw add-sub_cancel_left

-- they are the same in the bytes up to their end
elements_kept : (s : List ℕ) (q : ItemData) → bytes_at (take (item_end q) s) (data_span q) ≡ bytes_at s (data_span q)
elements_kept s q = ap (λ (p : Part). p.bytes) (part_kept (record { place = (0, 0); bytes = s }) q.start q.size (item_end q) (omega arith))

-- an array that is there
array_there : (s : List ℕ) (q : ItemData) → item_end q ≤ length s → answer (need q.start (item_end q)) s ≡ ok (take (item_end q) s)
array_there s q h = answer_need_present q.start (item_end q) s h

module _ (s : List ℕ) (a : SnpArrays) (h : ArraysPresent s a) where
  pub bytes_present : answer (snp_bytes a) s ≡ ok (bytes_in s a)
  unfolding snp_bytes
  bytes_present =
      simp (
        answer_bind,
        answer_done,
        elements_kept,
        array_there s a.genotypes h.genotypes,
        array_there s a.base_calls h.base_calls,
        array_there s a.scores h.scores,
        array_there s a.x h.x,
        array_there s a.y h.y,
      )

  pub of_snp : (i : ℕ) → is_number_of i a.genotypes.count ≡ true → answer (snp_at (bytes_in s a) (i - 1)) s ≡ answer (snp_of a i) s
  unfolding snp_of holds
  of_snp i f = simp (answer_bind, answer_must, f, bytes_present)

-- what lookup found of them
pub record Looked (s : List ℕ) (a : SnpArrays) : Type 0 where
  pub genotypes : answer (looking_up genotypes_id) s ≡ ok a.genotypes
  pub base_calls : answer (looking_up base_calls_id) s ≡ ok a.base_calls
  pub scores : answer (looking_up genotype_scores_id) s ≡ ok a.scores
  pub x : answer (looking_up raw_xid) s ≡ ok a.x
  pub y : answer (looking_up raw_yid) s ≡ ok a.y

pub looked : (s : List ℕ) (a : SnpArrays) → answer snp_arrays s ≡ ok a → Looked s a
unfolding snp_arrays call_arrays intensity_arrays
looked s a w =
    let c = bind_ok call_arrays _ s a w in
    let i = bind_ok intensity_arrays _ s a c.2 in
    let g = bind_ok (looking_up genotypes_id) _ s c.0 c.1 in
    let b = bind_ok (looking_up base_calls_id) _ s c.0 g.2 in
    let f = bind_ok (looking_up genotype_scores_id) _ s c.0 b.2 in
    let x = bind_ok (looking_up raw_xid) _ s i.0 i.1 in
    let y = bind_ok (looking_up raw_yid) _ s i.0 x.2 in
    let d : ◌≡◌ {A = ItemData × ItemData × ItemData} (g.0, b.0, f.0) c.0 = done_ok _ c.0 s f.2 in
    let e : ◌≡◌ {A = ItemData × ItemData} (x.0, y.0) i.0 = done_ok _ i.0 s y.2 in
    let m = done_ok _ a s i.2 in
    record {
      genotypes = g.1 ∙ ap ok (ap (λ (t : ItemData × ItemData × ItemData). t.0) d ∙ ap (λ (t : SnpArrays). t.genotypes) m);
      base_calls = b.1 ∙ ap ok (ap (λ (t : ItemData × ItemData × ItemData). t.1) d ∙ ap (λ (t : SnpArrays). t.base_calls) m);
      scores = f.1 ∙ ap ok (ap (λ (t : ItemData × ItemData × ItemData). t.2) d ∙ ap (λ (t : SnpArrays). t.scores) m);
      x = x.1 ∙ ap ok (ap (λ (t : ItemData × ItemData). t.0) e ∙ ap (λ (t : SnpArrays). t.x) m);
      y = y.1 ∙ ap ok (ap (λ (t : ItemData × ItemData). t.1) e ∙ ap (λ (t : SnpArrays). t.y) m);
    }

-- the five arrays that lookup finds are there
pub arrays_present : (s : List ℕ) (a : SnpArrays) → answer snp_arrays s ≡ ok a → ArraysPresent s a
arrays_present s a w =
    let l = looked s a w in
    record {
      genotypes = lookup_within genotypes_id s a.genotypes l.genotypes;
      base_calls = lookup_within base_calls_id s a.base_calls l.base_calls;
      scores = lookup_within genotype_scores_id s a.scores l.scores;
      x = lookup_within raw_xid s a.x l.x;
      y = lookup_within raw_yid s a.y l.y;
    }

-- the arrays that lookup finds have one element for each SNP
pub arrays_sized : (s : List ℕ) (a : SnpArrays) → answer snp_arrays s ≡ ok a → ArraysSized a
unfolding listing_of
arrays_sized s a w =
    let l = looked s a w in
    let g = of_snps genotypes_id 1 s a.genotypes refl l.genotypes in
    let b = of_snps base_calls_id 2 s a.base_calls refl l.base_calls in
    let f = of_snps genotype_scores_id 4 s a.scores refl l.scores in
    let x = of_snps raw_xid 2 s a.x refl l.x in
    let y = of_snps raw_yid 2 s a.y refl l.y in
    let m = same_count 2 1 s _ _ b g in
    let n = same_count 4 1 s _ _ f g in
    let p = same_count 2 1 s _ _ x g in
    let q = same_count 2 1 s _ _ y g in
    record { genotypes = g.size ∙ omega arith; base_calls = b.size ∙ omega arith; scores = f.size ∙ omega arith; x = x.size ∙ omega arith; y = y.size ∙ omega arith }

length_elements : (s : List ℕ) (q : ItemData) → item_end q ≤ length s → length (bytes_at s (data_span q)) ≡ q.size
length_elements s q h = simp (length-drop, length-take) (omega arith)

pub elements_there : (s : List ℕ) (a : SnpArrays) → ArraysPresent s a → ArraysSized a → ElementsPresent (bytes_in s a) a.genotypes.count
elements_there s a p z =
    let g = length_elements s a.genotypes p.genotypes in
    let b = length_elements s a.base_calls p.base_calls in
    let f = length_elements s a.scores p.scores in
    let x = length_elements s a.x p.x in
    let y = length_elements s a.y p.y in
    let u = z.genotypes in
    let v = z.base_calls in
    let w = z.scores in
    let m = z.x in
    let n = z.y in
    record { genotypes = omega arith; base_calls = omega arith; scores = omega arith; x = omega arith; y = omega arith }

pub elements_within : (b : SnpBytes) (m n : ℕ) → m ≤ n → ElementsPresent b n → ElementsPresent b m
elements_within b m n h e =
    let g = e.genotypes in
    let c = e.base_calls in
    let f = e.scores in
    let x = e.x in
    let y = e.y in
    record { genotypes = omega arith; base_calls = omega arith; scores = omega arith; x = omega arith; y = omega arith }

-- the record of a SNP, from its code and its letters
module _ (b : SnpBytes) (j : ℕ) (l : List ℕ) (code : ℕ) (is-code : code ≡ le 1 b.genotypes j) where
  pub code_refused : (r : Refusal) → refused (number r) 0 ≡ answer (decoding code) l → refused (number r) 0 ≡ answer (snp_at b j) l
  unfolding snp_at
  code_refused r q = answer_refused _ l _ r 0 (rw is-code at q)

  module _ (g : Genotype) (q : ok g ≡ answer (decoding code) l) (v w : ℕ) (is-v : v ≡ le 1 b.base_calls (2 * j)) (is-w : w ≡ le 1 b.base_calls (2 * j + 1)) where
    pub first_refused : false ≡ is_base_call v → refused 11 0 ≡ answer (snp_at b j) l
    unfolding snp_at holds
    first_refused f = simp (answer_bind, answer_must, ← is-code, ← is-v, ← q, ← f)

    pub second_refused : true ≡ is_base_call v → false ≡ is_base_call w → refused 11 0 ≡ answer (snp_at b j) l
    unfolding snp_at holds
    second_refused f h = simp (answer_bind, answer_must, ← is-code, ← is-v, ← is-w, ← q, ← f, ← h)

    pub snp_read : true ≡ is_base_call v → true ≡ is_base_call w → (n x y : ℕ) (score : Float) → n ≡ le 4 b.scores (4 * j) → score ≡ of_bits binary32 n → x ≡ le 2 b.x (2 * j) → y ≡ le 2 b.y (2 * j) → ok (record { code = code; genotype = g; call_1 = v; call_2 = w; score = score; score_bits = n; x = x; y = y }) ≡ answer (snp_at b j) l
    unfolding snp_at holds
    snp_read f h n x y score is-n is-score is-x is-y = simp (answer_bind, answer_must, answer_done, ← is-code, ← is-v, ← is-w, ← q, ← f, ← h, ← is-n, ← is-score, ← is-x, ← is-y)
