-- Numbers of w bytes, big-endian and little-endian alike: the laws are of `number`, over the width.
use Prim.Native.Nat.{ℕ, zero, suc, ◌+◌, ◌-◌, ◌*◌, ◌/◌, ◌%◌, ◌^◌, ◌<◌, ◌≤◌}
use mathlib.Core.Path.{◌≡◌, refl, sym, ◌∙◌, ap}
use mathlib.Core.List.{List}
use native.Mathlib.Omega.{arith}
use native.Mathlib.Nat.{add-zero, zero-add, add-suc, add_assoc, add-mul, add-mul-div_right, div-eq_of_lt, mul_assoc, mul_comm, mul-le-mul_right, pow-suc}
use lib.ListN.{length, take, drop, get_or, get_or-eq_default}
use lib.Pow.{pow-add}
use lib.Seq.{get_or-take, get_or-drop}
use Rattle.reading.specs.Number.{number, be, le}

-- a number is made of its w bytes
pub number_same : (w : ℕ) (d e : ℕ → ℕ) → ((i : ℕ) → i < w → d i ≡ e i) → number w d ≡ number w e
number_same zero d e h = refl
number_same (suc w) d e h = rw (number_same w d e (λ i q. h i (omega arith)), h w (omega arith))

-- so a number that stands in a part of the bytes is the one that stands there in them
module _ (w p n q : ℕ) (s : List ℕ) (h : q + w ≤ n) where
  in_part : (k : ℕ) → k < w → get_or (take n (drop p s)) (q + k) 0 ≡ get_or s (p + q + k) 0
  in_part k l = get_or-take n (drop p s) (q + k) 0 (omega arith) ∙ get_or-drop p s (q + k) 0 ∙ ap (λ (j : ℕ). get_or s j 0) (omega arith)

  pub be_in_part : be w (take n (drop p s)) q ≡ be w s (p + q)
  unfolding be
  be_in_part = number_same w _ _ (λ i l. in_part (w - suc i) (omega arith))

  pub le_in_part : le w (take n (drop p s)) q ≡ le w s (p + q)
  unfolding le
  le_in_part = number_same w _ _ (λ i l. in_part i l)

-- also at the front of a part, whose size the code computes as k
module _ (w p k : ℕ) (s : List ℕ) (h : w ≤ k) where
  pub be_front : be w (take k (drop p s)) 0 ≡ be w s p
  be_front = be_in_part w p k 0 s (omega arith) ∙ ap (be w s) (omega arith)

  pub le_front : le w (take k (drop p s)) 0 ≡ le w s p
  le_front = le_in_part w p k 0 s (omega arith) ∙ ap (le w s) (omega arith)

-- so where it fills the part
module _ (w p : ℕ) (s : List ℕ) where
  pub be_part : be w (take (p + w - p) (drop p s)) 0 ≡ be w s p
  be_part = be_front w p (p + w - p) s (omega arith)

  pub le_part : le w (take (p + w - p) (drop p s)) 0 ≡ le w s p
  le_part = le_front w p (p + w - p) s (omega arith)

-- and where the part is a beginning
module _ (w n p : ℕ) (s : List ℕ) (h : p + w ≤ n) where
  pub be_taken : be w (take n s) p ≡ be w s p
  be_taken = be_in_part w 0 n p s h ∙ ap (be w s) (omega arith)

  pub le_taken : le w (take n s) p ≡ le w s p
  le_taken = le_in_part w 0 n p s h ∙ ap (le w s) (omega arith)

-- one byte is the same either way
pub byte_le : (s : List ℕ) (p : ℕ) → be 1 s p ≡ le 1 s p
unfolding be le
byte_le s p = refl

pub le_byte : (s : List ℕ) (p : ℕ) → le 1 s p ≡ get_or s p 0
unfolding le
le_byte s p = rw (add-zero p) (omega arith)

-- bytes past the end read as 0
number_zero : (w : ℕ) (d : ℕ → ℕ) → ((i : ℕ) → d i ≡ 0) → number w d ≡ 0
number_zero zero d h = refl
number_zero (suc w) d h = rw (number_zero w d h, h w) (omega arith)

module _ (w p : ℕ) (s : List ℕ) (q : length s ≤ p) where
  pub be_past : be w s p ≡ 0
  unfolding be
  be_past = number_zero w _ (λ i. get_or-eq_default s 0 (omega arith))

  pub le_past : le w s p ≡ 0
  unfolding le
  le_past = number_zero w _ (λ i. get_or-eq_default s 0 (omega arith))

-- a number of v + w bytes is one of the lower v and one of the upper w
pub number_split : (v w : ℕ) (d : ℕ → ℕ) → number (v + w) d ≡ number v d + number w (λ i. d (v + i)) * 256 ^ v
number_split v zero d = rw (add-zero v) (omega arith)
number_split v (suc w) d =
    let e : d (v + w) * 256 ^ (v + w) ≡ d (v + w) * 256 ^ w * 256 ^ v = rw (pow-add 256 v w, mul_comm (256 ^ v) (256 ^ w), mul_assoc) in
    rw (add-suc v w, number_split v w d, add-mul) (omega arith)

-- a number of w bytes is below 256 ^ w
pub number_below : (w : ℕ) (d : ℕ → ℕ) → ((i : ℕ) → d i < 256) → number w d < 256 ^ w
number_below zero d h = omega arith
number_below (suc w) d h =
    let ih : number w d < 256 ^ w = number_below w d h in
    let b : d w ≤ 255 = omega (arith, h w) in
    let m : d w * 256 ^ w ≤ 255 * 256 ^ w = mul-le-mul_right (256 ^ w) b in
    omega (arith, pow-suc 256 w)

-- byte i of a number, counted from the lowest
pub number_digit : (w : ℕ) (d : ℕ → ℕ) → ((i : ℕ) → d i < 256) → (i : ℕ) → i < w → number w d / 256 ^ i % 256 ≡ d i
number_digit w d h i l =
    let r = w - suc i in
    let k : w ≡ i + (1 + r) = omega arith in
    let b : number i d < 256 ^ i = number_below i d h in
    let p : 0 < 256 ^ i = omega arith in
    let q : number w d / 256 ^ i ≡ number (1 + r) (λ j. d (i + j)) =
    ap (λ (n : ℕ). number n d / 256 ^ i) k
    ∙ ap (λ (n : ℕ). n / 256 ^ i) (number_split i (1 + r) d)
    ∙ add-mul-div_right (number i d) (number (1 + r) (λ j. d (i + j))) p
    ∙ rw (div-eq_of_lt b) (zero-add _)
    in
    rw (q, number_split 1 r (λ j. d (i + j)), add-zero) (omega (arith, h i))

-- big-endian and little-endian alike
module _ (v w : ℕ) (s : List ℕ) (p : ℕ) where
  pub be_split : be (v + w) s p ≡ be v s (p + w) + be w s p * 256 ^ v
  unfolding be
  be_split =
      let lower = number_same v (λ i. get_or s (p + (v + w - suc i)) 0) (λ i. get_or s (p + w + (v - suc i)) 0) (λ i h. ap (λ (k : ℕ). get_or s k 0) (omega arith)) in
      let upper = number_same w (λ i. get_or s (p + (v + w - suc (v + i))) 0) (λ i. get_or s (p + (w - suc i)) 0) (λ i h. ap (λ (k : ℕ). get_or s k 0) (omega arith)) in
      number_split v w _ ∙ rw (lower, upper)

  pub le_split : le (v + w) s p ≡ le v s p + le w s (p + v) * 256 ^ v
  unfolding le
  le_split = number_split v w _ ∙ simp add_assoc

-- a big-endian number is the little-endian one with its bytes in the other order
pub be_swapped : (w : ℕ) (s : List ℕ) (p : ℕ) → ((i : ℕ) → get_or s i 0 < 256) → be w s p ≡ number w (λ i. le w s p / 256 ^ (w - suc i) % 256)
unfolding be le
be_swapped w s p h = number_same w _ _ (λ i l. sym (number_digit w (λ j. get_or s (p + j) 0) (λ j. h (p + j)) (w - suc i) (omega arith)))
