-- The number law over the width: the number that w written bytes hold is the number written.
use Prim.Native.Nat.{ℕ, zero, suc, ◌+◌, ◌-◌, ◌/◌, ◌%◌, ◌^◌, ◌≤◌, ◌<◌}
use mathlib.Core.Path.{◌≡◌, refl, sym, ◌∙◌, ap}
use mathlib.Core.List.{List, [], ◌∷◌, ◌++◌}
use native.Mathlib.Omega.{arith}
use native.Mathlib.Nat.{mod-eq_of_lt, zero-add, pow-suc, pow-succ'}
use lib.Arith.{mod-mul}
use lib.Dec.{lit<}
use lib.ListN.{length, get_or, get_or-append, replicate, length-append, length-replicate}
use lib.Seq.{get_or-append-add, ext_get_or}
use Rattle.reading.specs.Number.{number, be}
use Rattle.reading.proofs.Width.{number_same, number_below, number_digit}
use Rattle.writing.specs.Put.{digits}
use Rattle.writing.proofs.Over.{length_digits}

power_pos : (w : ℕ) → 0 < 256 ^ w
power_pos zero = omega arith
power_pos (suc w) =
    let p : 0 < 256 ^ w = power_pos w in
    omega (arith, pow-suc 256 w)

-- the number made of a number's bytes
number_of : (w n : ℕ) → number w (λ i. n / 256 ^ i % 256) ≡ n % 256 ^ w
number_of zero n = omega arith
number_of (suc w) n = rw (number_of w n, pow-succ' 256 w, mod-mul n {m = 256} {c = 256 ^ w} (lit< tt) (power_pos w)) (omega arith)

-- byte i of the w bytes of n, counted from the lowest
pub digit : (w n i : ℕ) → i < w → get_or (digits w n) (w - suc i) 0 ≡ n / 256 ^ i % 256
unfolding digits
digit zero n i h = absurd (omega arith)
digit (suc w) n i h = go (w - i) refl (digit w n i)
  where
    go : (k : ℕ) → w - i ≡ k → (i < w → get_or (digits w n) (w - suc i) 0 ≡ n / 256 ^ i % 256) → get_or (digits (suc w) n) (suc w - suc i) 0 ≡ n / 256 ^ i % 256
    go zero e ih =
        let a : suc w - suc i ≡ 0 = omega arith in
        let b : w ≡ i = omega arith in
        rw (a, b)
    go (suc k) e ih =
        let a : suc w - suc i ≡ suc (w - suc i) = omega arith in
        rw a (ih (omega arith))

-- a number behind what stands in front
pub be_shift : (w : ℕ) (u s : List ℕ) (p : ℕ) → be w (u ++ s) (length u + p) ≡ be w s p
unfolding be
be_shift w u s p =
    number_same w _ _ (λ i h. ap (λ (k : ℕ). get_or (u ++ s) k 0) (omega arith) ∙ get_or-append-add u s (p + (w - suc i)) 0)

-- a number that lies in the first of two lists
pub be_front : (w : ℕ) (u s : List ℕ) (p : ℕ) → p + w ≤ length u → be w (u ++ s) p ≡ be w u p
unfolding be
be_front w u s p q = number_same w _ _ (λ i h. get_or-append u s 0 (p + (w - suc i)) (omega arith))

-- the number of the bytes of n
pub be_digits : (w n : ℕ) → be w (digits w n) 0 ≡ n % 256 ^ w
unfolding be
be_digits w n = number_same w _ _ (λ i h. ap (λ (k : ℕ). get_or (digits w n) k 0) (zero-add (w - suc i)) ∙ digit w n i h) ∙ number_of w n

pub be_written : (w n : ℕ) (s : List ℕ) → n < 256 ^ w → be w (digits w n ++ s) 0 ≡ n
be_written w n s h =
    let e : length (digits w n) ≡ w = length_digits w n in
    be_front w (digits w n) s 0 (omega arith) ∙ be_digits w n ∙ mod-eq_of_lt h

-- a number that is written k bytes behind what stands in front
pub be_field : (w n k : ℕ) (u v r s : List ℕ) → s ≡ v ++ (digits w n ++ r) → length v ≡ k → n < 256 ^ w → be w (u ++ s) (length u + k) ≡ n
be_field w n k u v r s e f h =
    let z : length v + 0 ≡ k = omega arith in
    be_shift w u s k ∙ rw (e, ← z) (be_shift w v (digits w n ++ r) 0 ∙ be_written w n r h)

get_or_zeros : (k j : ℕ) → get_or (replicate k 0) j 0 ≡ (let z : ℕ = 0 in z)
get_or_zeros zero j = refl
get_or_zeros (suc k) zero = refl
get_or_zeros (suc k) (suc j) = get_or_zeros k j

get_or_pad : (p : List ℕ) (k j : ℕ) → get_or (p ++ replicate k 0) j 0 ≡ get_or p j 0
get_or_pad [] k j = get_or_zeros k j
get_or_pad (x ∷ p) k zero = refl
get_or_pad (x ∷ p) k (suc j) = get_or_pad p k j

-- the bytes of the number that the first w bytes of p hold are those bytes, padded with zeros
pub digits_be : (w : ℕ) (p : List ℕ) → ((i : ℕ) → get_or p i 0 < 256) → length p ≤ w → digits w (be w p 0) ≡ p ++ replicate (w - length p) 0
unfolding be
digits_be w p h q =
    ext_get_or 0 (digits w (be w p 0)) (p ++ replicate (w - length p) 0)
    (length_digits w (be w p 0) ∙ sym (simp (length-append, length-replicate) (omega arith)))
    (λ j l. at j (rw length_digits at l))
  where
    at : (j : ℕ) → j < w → get_or (digits w (be w p 0)) j 0 ≡ get_or (p ++ replicate (w - length p) 0) j 0
    at j l =
        let a : w - suc (w - suc j) ≡ j = omega arith in
        let b : 0 + (w - suc (w - suc j)) ≡ j = omega arith in
        ap (λ (k : ℕ). get_or (digits w (be w p 0)) k 0) (sym a) ∙ digit w (be w p 0) (w - suc j) (omega arith)
        ∙ number_digit w (λ i. get_or p (0 + (w - suc i)) 0) (λ i. h (0 + (w - suc i))) (w - suc j) (omega arith)
        ∙ ap (λ (k : ℕ). get_or p k 0) b ∙ sym (get_or_pad p (w - length p) j)

pub be_below : (w : ℕ) (p : List ℕ) (x : ℕ) → ((i : ℕ) → get_or p i 0 < 256) → be w p x < 256 ^ w
unfolding be
be_below w p x h = number_below w (λ i. get_or p (x + (w - suc i)) 0) (λ i. h (x + (w - suc i)))
