-- The flow steps of a read, from the steps one by one; and the steps of a part, where the code reads them.
use Prim.Native.Nat.{ℕ, zero, suc, ◌+◌, ◌-◌, ◌*◌, ◌≤◌, ◌<◌, min}
use mathlib.Core.Path.{◌≡◌, refl, sym, ◌∙◌, ap}
use mathlib.Core.List.{List, ◌++◌}
use mathlib.Core.Bool.{Bool, true, false}
use native.Mathlib.Omega.{arith}
use native.Mathlib.Nat.{add-zero, zero-add}
use lib.ListN.{length, take, drop, get_or, get_or-append, length-append}
use lib.Seq.{get_or-append-add}
use lib.Dec.{leb}
use borrow.Author.Tests.{le-leb, lt-leb, leb-true, leb-false, ne_eqb}
use Rattle.reading.specs.Choice.{pick}
use Rattle.reading.specs.Number.{be}
use Rattle.reading.specs.Check.{ok, refused, answer, holds}
use Rattle.reading.proofs.Fold.{Same, same_first, fold_same, window_length}
use Rattle.reading.proofs.Loop.{Left}
use Rattle.reading.proofs.Steps.{answer_bind, answer_must}
use Rattle.reading.proofs.Width.{be_in_part, be_taken}
use Rattle.contents.proofs.text.Laws.{be_byte}
use Rattle.contents.specs.Steps.{flow_step, sums_within, steps_check, step_sum}

-- steps with the sum t, then m more
pub sum_start : (l : List ℕ) (n : ℕ) → Left (λ m. 0 + step_sum l 0 m) n 0 (step_sum l 0 n)
sum_start l n m e = zero-add (step_sum l 0 m) ∙ ap (step_sum l 0) (omega arith)

pub sum_on : (l : List ℕ) (i t b : ℕ) → b ≡ get_or l i 0 → (m : ℕ) → t + step_sum l i (suc m) ≡ t + b + step_sum l (i + 1) m
unfolding step_sum
sum_on l i t b e m = rw (be_byte, ← e) (omega arith)

pub sum_end : (l : List ℕ) (i t : ℕ) → t + step_sum l i 0 ≡ t
unfolding step_sum
sum_end l i t = add-zero t

-- the sum of m + n steps is that of m and that of the n behind them
sum_split : (l : List ℕ) (p m n : ℕ) → step_sum l p (m + n) ≡ step_sum l p m + step_sum l (p + m) n
unfolding step_sum
sum_split l p zero n = rw (zero-add n, zero-add (step_sum l (p + 0) n)) (ap (λ (k : ℕ). step_sum l k n) (omega arith))
sum_split l p (suc m) n =
    let e : suc m + n ≡ suc (m + n) = omega arith in
    let k : p + 1 + m ≡ p + suc m = omega arith in
    rw (e, sum_split l (p + 1) m n, k) (omega arith)

-- sums never fall, so no running sum passes the flows where the last does not
sums_total : (f : ℕ) (l : List ℕ) (p t n : ℕ) → t ≤ f → sums_within f l p t n ≡ leb (t + step_sum l p n) f
unfolding sums_within step_sum
sums_total f l p t zero h = sym (le-leb (t + 0) f (omega arith))
sums_total f l p t (suc n) h = go (leb (t + flow_step l p) f) refl (sums_total f l (p + 1) (t + flow_step l p) n)
  where
    go : (b : Bool) → leb (t + flow_step l p) f ≡ b → (t + flow_step l p ≤ f → sums_within f l (p + 1) (t + flow_step l p) n ≡ leb (t + flow_step l p + step_sum l (p + 1) n) f) → pick b (sums_within f l (p + 1) (t + flow_step l p) n) false ≡ leb (t + (flow_step l p + step_sum l (p + 1) n)) f
    go true q u =
        let e : t + flow_step l p + step_sum l (p + 1) n ≡ t + (flow_step l p + step_sum l (p + 1) n) = omega arith in
        u (leb-true (t + flow_step l p) f q) ∙ ap (λ (k : ℕ). leb k f) e
    go false q u =
        let k : f < t + flow_step l p = leb-false (t + flow_step l p) f q in
        sym (lt-leb (t + (flow_step l p + step_sum l (p + 1) n)) f (omega arith))

-- the same steps at two places have the same sums
module _ (l m : List ℕ) where
  sums_same : (f p q t n : ℕ) → Same flow_step l p m q n → sums_within f l p t n ≡ sums_within f m q t n
  unfolding sums_within
  sums_same f p q t n h = ap (λ (g : ℕ → Bool). g t) (fold_same flow_step (λ t. true) (λ b g t. pick (leb (t + b) f) (g (t + b)) false) (λ l p n t. sums_within f l p t n) (λ l p. refl) (λ l p n. refl) l m p q n h)

  sum_same : (p q n : ℕ) → Same flow_step l p m q n → step_sum l p n ≡ step_sum m q n
  unfolding step_sum
  sum_same p q n h = fold_same flow_step 0 (λ b t. b + t) step_sum (λ l p. refl) (λ l p n. refl) l m p q n h

  steps_same : (s : List ℕ) (f p q n : ℕ) → Same flow_step l p m q n → answer (steps_check f l p n) s ≡ answer (steps_check f m q n) s
  unfolding steps_check holds
  steps_same s f p q zero h = simp (answer_bind, answer_must, sums_same f p q 0 0 h)
  steps_same s f p q (suc n) h = simp (answer_bind, answer_must, ne_eqb (suc n) 0 (λ e. omega arith), same_first flow_step l m p q n h, sums_same f p q 0 (suc n) h)

-- the n steps from place p on are the steps of the part that they fill, whose size the code computes as k
module _ (l : List ℕ) (p n k : ℕ) (e : k ≡ n) (h : p + n ≤ length l) where
  window_same : Same flow_step (take k (drop p l)) 0 l p n
  window_same i m = be_in_part 1 p k (0 + i) l (omega arith) ∙ ap (be 1 l) (omega arith)

  pub steps_window : (f : ℕ) (s : List ℕ) → answer (steps_check f (take k (drop p l)) 0 (length (take k (drop p l)))) s ≡ answer (steps_check f l p n) s
  steps_window f s = rw (window_length l p n k e h) (steps_same (take k (drop p l)) l s f 0 p n window_same)

  pub sum_window : step_sum (take k (drop p l)) 0 (length (take k (drop p l))) ≡ step_sum l p n
  sum_window = rw (window_length l p n k e h) (sum_same (take k (drop p l)) l 0 p n window_same)

-- and those of a beginning that has them
pub sum_taken : (l : List ℕ) (m p n : ℕ) → p + n ≤ m → step_sum (take m l) p n ≡ step_sum l p n
sum_taken l m p n h = sum_same (take m l) l p p n (λ i k. be_taken 1 m (p + i) l (omega arith))

pub sum_begin : (l : List ℕ) (n : ℕ) → 0 + step_sum l 0 (n - 0) ≡ step_sum l 0 n
sum_begin l n = zero-add _ ∙ ap (step_sum l 0) (omega arith)

pub sum_all : (l : List ℕ) (a n t whole : ℕ) → n ≤ a → t + step_sum l a (n - a) ≡ whole → t ≡ whole
sum_all l a n t whole h w =
    let e : n - a ≡ 0 = omega arith in
    sym (sum_end l a t) ∙ ap (λ (k : ℕ). t + step_sum l a k) (sym e) ∙ w

-- the steps from place a on are those of a part up to b, and those behind it
pub sum_chunk : (l : List ℕ) (a b n t v whole : ℕ) → a ≤ b → b ≤ n → n ≤ length l → t + step_sum l a (n - a) ≡ whole → v ≡ step_sum (take (b - a) (drop a l)) 0 (length (take (b - a) (drop a l))) → t + v + step_sum l b (n - b) ≡ whole
sum_chunk l a b n t v whole g h k w q =
    let e : n - a ≡ b - a + (n - b) = omega arith in
    let d : a + (b - a) ≡ b = omega arith in
    let x : step_sum l a (n - a) ≡ step_sum l a (b - a) + step_sum l b (n - b) = ap (step_sum l a) e ∙ sum_split l a (b - a) (n - b) ∙ ap (λ (i : ℕ). step_sum l a (b - a) + step_sum l i (n - b)) d in
    let y : v ≡ step_sum l a (b - a) = q ∙ sum_window l a (b - a) (b - a) refl (omega arith) in
    omega arith

-- the steps of two lists, one behind the other
sum_append : (l m : List ℕ) → step_sum (l ++ m) 0 (length (l ++ m)) ≡ step_sum l 0 (length l) + step_sum m 0 (length m)
sum_append l m =
    let front : step_sum (l ++ m) 0 (length l) ≡ step_sum l 0 (length l) = sum_same (l ++ m) l 0 0 (length l) (λ i h. be_byte _ _ ∙ get_or-append l m 0 (0 + i) (omega arith) ∙ sym (be_byte _ _)) in
    let back : step_sum (l ++ m) (0 + length l) (length m) ≡ step_sum m 0 (length m) = sum_same (l ++ m) m (0 + length l) 0 (length m) (λ i h. be_byte _ _ ∙ ap (λ (k : ℕ). get_or (l ++ m) k 0) (omega arith) ∙ get_or-append-add l m (0 + i) 0 ∙ sym (be_byte _ _)) in
    ap (step_sum (l ++ m) 0) (length-append l m) ∙ sum_split (l ++ m) 0 (length l) (length m) ∙ rw (front, back)

pub sum_front : (l a b : List ℕ) → l ≡ a ++ b → step_sum l 0 (length l) ≡ step_sum a 0 (length a) + step_sum b 0 (length b)
sum_front l a b e = ap (λ (x : List ℕ). step_sum x 0 (length x)) e ∙ sum_append a b

pub sum_none : (l : List ℕ) → length l ≡ 0 → step_sum l 0 (length l) ≡ 0
unfolding step_sum
sum_none l e = rw e

-- the flow steps of a read
module _ (f : ℕ) (l s : List ℕ) (p n : ℕ) where
  pub steps_none : n ≡ 0 → ok tt ≡ answer (steps_check f l p n) s
  unfolding steps_check sums_within answer
  steps_none h = rw h

  module _ (k : n ≡ 0 → ⊥) (b : ℕ) (eb : b ≡ flow_step l p) where
    pub steps_zero : b < 1 → refused 11 0 ≡ answer (steps_check f l p n) s
    unfolding steps_check holds
    steps_zero h = simp (answer_bind, answer_must, ne_eqb n 0 k, ← eb, lt-leb 1 b h)

    pub steps_on : 1 ≤ b → (v : Bool) → v ≡ leb (step_sum l p n) f → pick v (ok tt) (refused 11 0) ≡ answer (steps_check f l p n) s
    unfolding steps_check holds
    steps_on h v q =
        let e : sums_within f l p 0 n ≡ v = sums_total f l p 0 n (omega arith) ∙ ap (λ (k : ℕ). leb k f) (zero-add (step_sum l p n)) ∙ sym q in
        simp (answer_bind, answer_must, ne_eqb n 0 k, ← eb, e, le-leb 1 b h)

-- a sum that stops past the most: that of few steps does not stop, and a stopped one is past the most as the whole is
pub sum_whole : (most r : ℕ) (l : List ℕ) → (r ≡ min (step_sum l 0 (length l)) most) × (r ≤ 65536 * length l) → 65536 * length l < most → r ≡ step_sum l 0 (length l)
sum_whole most r l u h =
    let e = u.0 in
    let k = u.1 in
    omega arith

pub sum_tells : (most r : ℕ) (l : List ℕ) → r ≡ min (step_sum l 0 (length l)) (most + 1) → leb r most ≡ leb (step_sum l 0 (length l)) most
sum_tells most r l e = go (leb (step_sum l 0 (length l)) most) refl
  where
    go : (b : Bool) → leb (step_sum l 0 (length l)) most ≡ b → leb r most ≡ b
    go true q =
        let k : step_sum l 0 (length l) ≤ most = leb-true _ _ q in
        le-leb r most (omega arith)
    go false q =
        let k : most < step_sum l 0 (length l) = leb-false _ _ q in
        lt-leb r most (omega arith)
