-- The turns of the loop that writes 16-bit numbers.
use Prim.Native.Nat.{ℕ, zero, suc, ◌+◌, ◌*◌, ◌≤◌, ◌<◌}
use mathlib.Core.Path.{◌≡◌, refl, sym, ◌∙◌, ap, subst}
use mathlib.Core.List.{List, ◌++◌, append_assoc, append-nil}
use native.Mathlib.Nat.{zero-add, suc-add}
use native.Mathlib.Omega.{arith}
use lib.ListN.{length, get_or, take, length-take, length-append}
use Rattle.writing.specs.Put.{digits, words, put}
use Rattle.reading.specs.Number.{be}
use Rattle.writing.proofs.Over.{length_digits, follow}
use Rattle.writing.proofs.Digits.{be_shift, be_written}
use Rattle.writing.proofs.Begun.{Begun, begun_room, begun_next, begun_end, begun_put}

pub length_words : (v : List ℕ) (m i : ℕ) → length (words v m i) ≡ 2 * m
unfolding words
length_words v zero i = refl
length_words v (suc m) i = rw (length-append, length_digits 2 (get_or v i 0), length_words v m (i + 1)) (omega arith)

-- the numbers appended one by one
module _ (v o l : List ℕ) (at n i p : ℕ) (k : Begun o l at (λ m. words v m i) n i (take p o ++ words v n 0)) where
  whole_fits : p + 2 * n ≤ length o → length (take p o ++ words v n 0) ≤ length o
  whole_fits h = rw (length-append, length_words v n 0) (simp length-take (omega arith))

  module _ (h : i < n) (r : p + 2 * n ≤ length o) where
    step : (m : ℕ) → words v (suc m) i ≡ digits 2 (get_or v i 0) ++ words v m (i + 1)
    unfolding words
    step m = refl

    pub words_room : at + 2 ≤ length l
    words_room = subst (λ (y : ℕ). at + y ≤ length l) (length_digits 2 (get_or v i 0)) (begun_room o l at _ n i _ k (digits 2 (get_or v i 0)) _ step h (whole_fits r))

    pub words_begun : (x : ℕ) (l' : List ℕ) → x ≡ get_or v i 0 → l' ≡ put l at (digits 2 x) → Begun o l' (at + 2) (λ m. words v m (i + 1)) n (i + 1) (take p o ++ words v n 0)
    words_begun x l' q e = subst (λ (y : ℕ). Begun o l' (at + y) (λ m. words v m (i + 1)) n (i + 1) (take p o ++ words v n 0)) (length_digits 2 (get_or v i 0)) (begun_next o l at _ n i _ k (digits 2 (get_or v i 0)) _ step h (whole_fits r) l' (rw (← q) e))

  pub words_end : n ≤ i → p + 2 * n ≤ length o → l ≡ put o p (words v n 0)
  unfolding words
  words_end h r = (begun_put o l at p (words v n 0) (begun_end o l at _ n i _ k h refl) (rw (length_words v n 0) r)).0

-- one number more
words_more : (v : List ℕ) (m i : ℕ) → words v (m + 1) i ≡ words v m i ++ digits 2 (get_or v (i + m) 0)
unfolding words
words_more v zero i = append-nil (digits 2 (get_or v i 0)) ∙ ap (λ (k : ℕ). digits 2 (get_or v k 0)) (omega arith)
words_more v (suc m) i =
    let e : i + 1 + m ≡ i + suc m = omega arith in
    rw suc-add (ap (λ (l : List ℕ). digits 2 (get_or v i 0) ++ l) (words_more v m (i + 1) ∙ ap (λ (k : ℕ). words v m (i + 1) ++ digits 2 (get_or v k 0)) e) ∙ sym (append_assoc (digits 2 (get_or v i 0)) (words v m (i + 1)) (digits 2 (get_or v (i + suc m) 0))))

-- a turn of the loop: o is the output before it, l the output that has the numbers up to number i
pub words_next : (v o l l' : List ℕ) (p q i x : ℕ) → l ≡ put o p (words v i 0) → x ≡ get_or v i 0 → q ≡ p + 2 * i → p + 2 * i + 2 ≤ length o → l' ≡ put l q (digits 2 x) → l' ≡ put o p (words v (i + 1) 0)
words_next v o l l' p q i x e f g h k =
    let w = length_words v i 0 in
    let d = length_digits 2 x in
    follow o l p q (words v i 0) (digits 2 x) e k (omega arith) (omega arith) ∙ ap (put o p) (ap (λ (y : ℕ). words v i 0 ++ digits 2 y) (f ∙ ap (λ (k : ℕ). get_or v k 0) (sym (zero-add i))) ∙ sym (words_more v i 0))

-- number j of the numbers written
pub word_back : (v : List ℕ) (j m i : ℕ) → j < m → get_or v (i + j) 0 < 65536 → be 2 (words v m i) (2 * j) ≡ get_or v (i + j) 0
unfolding words
word_back v j zero i h b = absurd (omega arith)
word_back v zero (suc m) i h b =
    let e : i + 0 ≡ i = omega arith in
    rw e (be_written 2 (get_or v i 0) (words v m (i + 1)) (rw e at b))
word_back v (suc j) (suc m) i h b =
    let e : i + 1 + j ≡ i + suc j = omega arith in
    let l : length (digits 2 (get_or v i 0)) + 2 * j ≡ 2 * suc j = rw (length_digits 2 (get_or v i 0)) (omega arith) in
    ap (be 2 (digits 2 (get_or v i 0) ++ words v m (i + 1))) (sym l) ∙ be_shift 2 (digits 2 (get_or v i 0)) (words v m (i + 1)) (2 * j) ∙ word_back v j m (i + 1) (omega arith) (rw e b) ∙ ap (λ (k : ℕ). get_or v k 0) e
