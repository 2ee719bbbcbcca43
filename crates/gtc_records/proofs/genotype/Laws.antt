-- The codes of three to eight letters.
use Prim.Native.Nat.{ℕ, zero, suc, ◌+◌, ◌-◌, ◌*◌, ◌/◌, ◌≤◌, ◌<◌}
use mathlib.Core.Path.{◌≡◌, refl, ◌∙◌}
use mathlib.Core.Bool.{Bool, true, false}
use native.Mathlib.Omega.{arith}
use lib.Dec.{leb}
use borrow.Author.Tests.{le-leb, lt-leb, ne_eqb, leb-true, leb-false}
use Rattle.reading.specs.Choice.{pick}
use Rattle.reading.proofs.Tests.{span}
use Rattle.gtc_records.specs.declared.genotype.Genotype.TheVariants.{Alleles}
use Rattle.gtc_records.specs.Genotype.{code_of, letters_from, meaning}

high : (k : ℕ) → 7 ≤ k → meaning k ≡ letters_from k 3 5
unfolding meaning
high k h = rw (ne_eqb k 0 (λ e. omega arith), lt-leb k 3 (omega arith), ne_eqb k 4 (λ e. omega arith), lt-leb k 6 (omega arith))

longer : (k p n : ℕ) → code_of p p < k → letters_from k p (suc n) ≡ letters_from k (p + 1) n
unfolding letters_from
longer k p n h = rw (lt-leb k (code_of p p) h)

last : (p b : ℕ) → letters_from (code_of p b) p zero ≡ Alleles p b
unfolding letters_from
last p b = let e : code_of p b - code_of p 0 ≡ b = omega arith in rw e

here : (p b n : ℕ) → b ≤ p → letters_from (code_of p b) p (suc n) ≡ Alleles p b
unfolding letters_from
here p b n h =
    let e : code_of p b - code_of p 0 ≡ b = omega arith in
    rw (le-leb (code_of p b) (code_of p p) (omega arith), e)

-- p letters of which b are B, p from 3 to 8, have the code p (p + 1) / 2 + 1 + b
module _ (b : ℕ) where
  abbrev Coded : ℕ → Type 0
  Coded p = b ≤ p → meaning (code_of p b) ≡ Alleles p b

  three : Coded 3
  three h = high (7 + b) (omega arith) ∙ here 3 b 4 h

  four : Coded 4
  four h = high (11 + b) (omega arith) ∙ longer (11 + b) 3 4 (omega arith) ∙ here 4 b 3 h

  five : Coded 5
  five h = high (16 + b) (omega arith) ∙ longer (16 + b) 3 4 (omega arith) ∙ longer (16 + b) 4 3 (omega arith) ∙ here 5 b 2 h

  six : Coded 6
  six h = high (22 + b) (omega arith) ∙ longer (22 + b) 3 4 (omega arith) ∙ longer (22 + b) 4 3 (omega arith) ∙ longer (22 + b) 5 2 (omega arith) ∙ here 6 b 1 h

  seven : Coded 7
  seven h = high (29 + b) (omega arith) ∙ longer (29 + b) 3 4 (omega arith) ∙ longer (29 + b) 4 3 (omega arith) ∙ longer (29 + b) 5 2 (omega arith) ∙ longer (29 + b) 6 1 (omega arith) ∙ here 7 b 0 h

  eight : Coded 8
  eight h = high (37 + b) (omega arith) ∙ longer (37 + b) 3 4 (omega arith) ∙ longer (37 + b) 4 3 (omega arith) ∙ longer (37 + b) 5 2 (omega arith) ∙ longer (37 + b) 6 1 (omega arith) ∙ longer (37 + b) 7 0 (omega arith) ∙ last 8 b

-- the letters of a code are those that document 01's formula gives it; docs/DECISIONS.md names this, and nothing cites it
pub letters_code : (p b : ℕ) → 3 ≤ p → p ≤ 8 → b ≤ p → meaning (code_of p b) ≡ Alleles p b
letters_code p b l h = span (Coded b) 3 p l (three b) (λ k. span (Coded b) 4 p k (four b) (λ m. span (Coded b) 5 p m (five b) (λ n. span (Coded b) 6 p n (six b) (λ q. span (Coded b) 7 p q (seven b) (λ r. span (Coded b) 8 p r (eight b) (λ u. absurd (omega arith)))))))

-- a code of p letters
pub record OfLength (k p : ℕ) : Type 0 where
  pub small : p * (p + 1) ≤ 72
  pub low : p * (p + 1) / 2 + 1 ≤ k
  pub is : Alleles p (k - (p * (p + 1) / 2 + 1)) ≡ letters_from k 3 5

-- a code from 7 to 45 has three letters, and one more from the first code of each length on
module _ (k : ℕ) (l : 7 ≤ k) (h : k ≤ 45) where
  abbrev step : ℕ → ℕ
  step m = pick (leb m k) 1 0

  up_to : (P : Type 0) (m : ℕ) → (k ≤ m → P) → (m < k → P) → P
  up_to P m f g = go (leb k m) refl
    where
      go : (b : Bool) → leb k m ≡ b → P
      go true e = f (leb-true k m e)
      go false e = g (leb-false k m e)

  lengths : OfLength k (3 + step 11 + step 16 + step 22 + step 29 + step 37)
  unfolding letters_from
  lengths =
      up_to _ 10 (λ a. rw (lt-leb 11 k (omega arith), lt-leb 16 k (omega arith), lt-leb 22 k (omega arith), lt-leb 29 k (omega arith), lt-leb 37 k (omega arith)) (record { small = omega arith; low = omega arith; is = rw (le-leb k 10 a) })) (λ a.
      up_to _ 15 (λ b. rw (le-leb 11 k (omega arith), lt-leb 16 k (omega arith), lt-leb 22 k (omega arith), lt-leb 29 k (omega arith), lt-leb 37 k (omega arith)) (record { small = omega arith; low = omega arith; is = rw (lt-leb k 10 a, le-leb k 15 b) })) (λ b.
      up_to _ 21 (λ c. rw (le-leb 11 k (omega arith), le-leb 16 k (omega arith), lt-leb 22 k (omega arith), lt-leb 29 k (omega arith), lt-leb 37 k (omega arith)) (record { small = omega arith; low = omega arith; is = rw (lt-leb k 10 a, lt-leb k 15 b, le-leb k 21 c) })) (λ c.
      up_to _ 28 (λ d. rw (le-leb 11 k (omega arith), le-leb 16 k (omega arith), le-leb 22 k (omega arith), lt-leb 29 k (omega arith), lt-leb 37 k (omega arith)) (record { small = omega arith; low = omega arith; is = rw (lt-leb k 10 a, lt-leb k 15 b, lt-leb k 21 c, le-leb k 28 d) })) (λ d.
      up_to _ 36 (λ e. rw (le-leb 11 k (omega arith), le-leb 16 k (omega arith), le-leb 22 k (omega arith), le-leb 29 k (omega arith), lt-leb 37 k (omega arith)) (record { small = omega arith; low = omega arith; is = rw (lt-leb k 10 a, lt-leb k 15 b, lt-leb k 21 c, lt-leb k 28 d, le-leb k 36 e) })) (λ e.
      rw (le-leb 11 k (omega arith), le-leb 16 k (omega arith), le-leb 22 k (omega arith), le-leb 29 k (omega arith), le-leb 37 k (omega arith)) (record { small = omega arith; low = omega arith; is = rw (lt-leb k 10 a, lt-leb k 15 b, lt-leb k 21 c, lt-leb k 28 d, lt-leb k 36 e) }))))))

  pub of_length : (u v w x y : ℕ) → u ≡ step 11 → v ≡ step 16 → w ≡ step 22 → x ≡ step 29 → y ≡ step 37 → OfLength k (3 + u + v + w + x + y)
  of_length u v w x y a b c d e = rw (a, b, c, d, e) lengths
