-- Item j of the bulk call is what is answered for SNP first + j, and there are as many as are left and as fit.
use Prim.Native.Nat.{ℕ, zero, suc, ◌+◌, ◌-◌, ◌*◌, ◌≤◌, ◌<◌}
use mathlib.Core.Path.{◌≡◌, refl, sym, ◌∙◌, ap, subst}
use mathlib.Core.Logic.{◌⊎◌, inl, inr}
use mathlib.Core.List.{List, [], ◌∷◌}
use mathlib.Core.Bool.{Bool, true, false}
use native.Mathlib.Omega.{arith}
use lib.ListN.{length, drop, length-drop}
use lib.Dec.{leb}
use borrow.Author.Tests.{le-leb, lt-leb, leb-true, leb-false}
use Rattle.reading.specs.Choice.{is_number_of}
use Rattle.reading.specs.Check.{Answer, ok, refused, answer, holds}
use Rattle.reading.specs.Bulk.{left_from, fitting, OfItem}
use Rattle.reading.proofs.Steps.{answer_bind, answer_must}
use Rattle.reading.proofs.Passed.{bind_ok, done_ok, must_ok}
use Rattle.reading.proofs.bulk.Laws.{answers_from, answers_are, of_item}
use Rattle.reading.proofs.Tests.{number_within}
use Rattle.gtc_records.specs.declared.snp.SnpArrays.{SnpArrays}
use Rattle.gtc_records.specs.declared.snp.Snp.{Snp}
use Rattle.gtc_records.specs.Genotype.{decoding}
use Rattle.gtc_records.specs.Snp.{snp_arrays, SnpBytes, snp_bytes, snp_at, snp_of, snp_reading}
use Rattle.gtc_records.specs.Snps.{snps_at, snps_of, snps_reading}
use Rattle.gtc_records.proofs.Refused.{record_refuses, snps_refuses}
use Rattle.gtc_records.proofs.snps.Laws.{length_snps}

module _ (b : SnpBytes) where
  -- a SNP whose bytes are there is answered, or refused with 11
  snp_own : (k : ℕ) (s : List ℕ) → OfItem (answer (snp_at b k) s)
  snp_own k s = of_item _ (record_refuses (λ n e. (n ≡ 11) × (e ≡ 0)) s (refl, refl) b k).told

  -- no file is looked at
  snp_any : (k : ℕ) (s l : List ℕ) → answer (snp_at b k) s ≡ answer (snp_at b k) l
  unfolding snp_at decoding answer
  snp_any k s l = refl

  -- item i is that of SNP j + i
  item_of : (n j i : ℕ) (r : Answer Snp) (l : List (Answer Snp)) → drop i (snps_at b n j) ≡ r ∷ l → (r ≡ answer (snp_at b (j + i)) []) × (i < n)
  unfolding snps_at
  item_of zero j i r l e =
      let h = length-drop i (snps_at b zero j) in
      let k : length (drop i (snps_at b zero j)) ≡ suc (length l) = ap length e in
      absurd (omega arith)
  item_of (suc n) j zero r l e =
      let z : answer (snp_at b j) [] ≡ r = cc in
      (sym z ∙ ap (λ (k : ℕ). answer (snp_at b k) []) (omega arith), omega arith)
  item_of (suc n) j (suc i) r l e =
      let f = item_of n (j + 1) i r l e in
      (f.0 ∙ ap (λ (k : ℕ). answer (snp_at b k) []) (omega arith), omega arith)

-- a SNP of the arrays, and one that is not there
module _ (s : List ℕ) (a : SnpArrays) (h : answer snp_arrays s ≡ ok a) (i : ℕ) where
  snp_there : (b : SnpBytes) → answer (snp_bytes a) s ≡ ok b → is_number_of i a.genotypes.count ≡ true → answer (snp_reading i) s ≡ answer (snp_at b (i - 1)) s
  unfolding snp_reading snp_of holds
  snp_there b w f = simp (answer_bind, answer_must, h, f, w)

  snp_none : is_number_of i a.genotypes.count ≡ false → answer (snp_reading i) s ≡ refused 12 0
  unfolding snp_reading snp_of holds
  snp_none f = simp (answer_bind, answer_must, h, f)

-- what has passed where the bulk call answers
record Passed (s : List ℕ) (first room : ℕ) (v : List (Answer Snp)) : Type 0 where
  arrays : SnpArrays
  arrays_ok : answer snp_arrays s ≡ ok arrays
  low : 1 ≤ first
  high : first ≤ arrays.genotypes.count
  enough : 9 ≤ room
  bytes : SnpBytes
  bytes_ok : answer (snp_bytes arrays) s ≡ ok bytes
  items : v ≡ snps_at bytes (fitting 9 (left_from arrays.genotypes.count first) room) (first - 1)

passed : (s : List ℕ) (first room : ℕ) (v : List (Answer Snp)) → answer (snps_reading first room) s ≡ ok v → Passed s first room v
unfolding snps_reading snps_of holds
passed s first room v w =
    let a = bind_ok snp_arrays _ s v w in
    let f = bind_ok _ _ s v a.2 in
    let g = bind_ok _ _ s v f.2 in
    let b = bind_ok (snp_bytes a.0) _ s v g.2 in
    let i = number_within first a.0.genotypes.count (must_ok _ _ _ s f.0 f.1) in
    record {
      arrays = a.0;
      arrays_ok = a.1;
      low = i.0;
      high = i.1;
      enough = leb-true 9 room (must_ok _ _ _ s g.0 g.1);
      bytes = b.0;
      bytes_ok = b.1;
      items = sym (done_ok _ v s b.2);
    }

module _ (s : List ℕ) (first room : ℕ) (v : List (Answer Snp)) (g : Passed s first room v) where
  abbrev count : ℕ
  count = g.arrays.genotypes.count

  abbrev many : ℕ
  many = fitting 9 (left_from count first) room

  counted : length v ≡ many
  counted = ap length g.items ∙ length_snps g.bytes many (first - 1)

  -- SNP j of the items is SNP first + j
  snp_is : (j : ℕ) → j < many → answer (snp_at g.bytes (first - 1 + j)) [] ≡ answer (snp_reading (first + j)) s
  snp_is j h =
      let l = g.low in
      let u = g.high in
      let k : is_number_of (first + j) count ≡ true = rw (le-leb 1 (first + j) (omega arith), le-leb (first + j) count (omega arith)) in
      snp_any g.bytes (first - 1 + j) [] s ∙ ap (λ (x : ℕ). answer (snp_at g.bytes x) s) (omega arith) ∙ sym (snp_there s g.arrays g.arrays_ok (first + j) g.bytes g.bytes_ok k)

  item : (j : ℕ) (r : Answer Snp) (l : List (Answer Snp)) → drop j v ≡ r ∷ l → r ≡ answer (snp_reading (first + j)) s
  item j r l h = let i = item_of g.bytes many (first - 1) j r l (ap (drop j) (sym g.items) ∙ h) in i.0 ∙ snp_is j i.1

-- where the bulk call answers v
module _ (s : List ℕ) (first room : ℕ) (v : List (Answer Snp)) (w : answer (snps_reading first room) s ≡ ok v) where
  pub many_fit : (1 ≤ length v) × (9 * length v ≤ room)
  many_fit =
      let g = passed s first room v w in
      let c = counted s first room v g in
      let l = g.low in
      let h = g.high in
      let e = g.enough in
      (omega arith, omega arith)

  pub many_items : v ≡ answers_from snp_reading s first (length v)
  many_items = answers_are snp_reading s v first (item s first room v (passed s first room v w))

  pub many_own : (j : ℕ) → j < length v → OfItem (answer (snp_reading (first + j)) s)
  many_own j h =
      let g = passed s first room v w in
      subst OfItem (snp_is s first room v g j (omega (arith, counted s first room v g))) (snp_own g.bytes (first - 1 + j) [])

  -- no SNP is left, or no record fits behind them
  pub many_all : (room < 9 * suc (length v)) ⊎ (answer (snp_reading (first + length v)) s ≡ refused 12 0)
  many_all = go (leb (9 * suc (length v)) room) refl
    where
      go : (b : Bool) → leb (9 * suc (length v)) room ≡ b → (room < 9 * suc (length v)) ⊎ (answer (snp_reading (first + length v)) s ≡ refused 12 0)
      go false q = inl (leb-false _ room q)
      go true q =
          let g = passed s first room v w in
          let c = counted s first room v g in
          let l = g.low in
          let h = g.high in
          let k = leb-true _ room q in
          inr (snp_none s g.arrays g.arrays_ok (first + length v) (rw (le-leb 1 (first + length v) (omega arith), lt-leb (first + length v) g.arrays.genotypes.count (omega arith))))

-- 13 only where not one fits
pub many_full : (s : List ℕ) (first room e : ℕ) → answer (snps_reading first room) s ≡ refused 13 e → room < 9
many_full s first room e h = (snps_refuses (λ n _. n ≡ 13 → room < 9) s (λ q. absurd (omega arith)) (λ q. absurd (omega arith)) (λ q. absurd (omega arith)) (λ q. absurd (omega arith)) (λ q. absurd (omega arith)) (λ q. absurd (omega arith)) (λ q. absurd (omega arith)) (λ q. absurd (omega arith)) (λ q. absurd (omega arith)) (λ q. absurd (omega arith)) (λ q. absurd (omega arith)) first room (λ f _. leb-false 9 room f)).told 13 e h refl
