-- The search for an entry, and the checks of entries in order.
use Prim.Native.Nat.{ℕ, zero, suc, ◌+◌, ◌-◌, ◌≤◌, ◌<◌, max}
use mathlib.Core.Path.{◌≡◌, refl, sym, ◌∙◌, ap}
use mathlib.Core.List.{List}
use mathlib.Core.Bool.{Bool, true, false}
use native.Mathlib.Omega.{arith}
use lib.Dec.{leb}
use borrow.Author.Tests.{lt-ltb, le-ltb, eq-eqb, ne_eqb, ltb-true, leb-true, leb-false}
use Rattle.reading.specs.declared.check.Failure.{Failure}
use Rattle.reading.specs.declared.check.Failure.TheVariants.{Failed, Short}
use Rattle.reading.specs.declared.refusal.Refusal.{Refusal}
use Rattle.reading.specs.Answers.{test_of, outcome_of_failure}
use Rattle.reading.specs.Choice.{pick}
use Rattle.reading.specs.Check.{Check, Test, passed, failed, short, failing, ok, run, answer, holds}
use Rattle.reading.proofs.Needed.{reach}
use Rattle.reading.specs.Entries.{first_with, one_with, in_order}
use Rattle.reading.proofs.Steps.{run_bind, run_must, run_done, run_at, answer_bind, answer_done, answer_at, reach_must, reach_done, reach_at}
use Rattle.reading.proofs.Passed.{bind_ok, must_ok, done_ok, at_ok}
use Rattle.reading.proofs.Reach.{reach_none}
use Rattle.reading.proofs.Refused.{Refuses, refuses_done, refuses_must, refuses_bind, refuses_at}
use Rattle.reading.proofs.Tests.{span}

module _ (f : ℕ → Bool) where
  -- the search, from what the test says of the entry at hand
  module _ (i : ℕ) (r : Bool) (q : r ≡ f i) (m : ℕ) where
    pub first_here : r ≡ true → first_with f (suc m) i ≡ i
    unfolding first_with
    first_here t = rw (← q, t)

    pub first_on : r ≡ false → first_with f (suc m) i ≡ first_with f m (i + 1)
    unfolding first_with
    first_on t = rw (← q, t)

  pub first_all : (n : ℕ) → first_with f (n - 0) 0 ≡ first_with f n 0
  first_all n = ap (λ (m : ℕ). first_with f m 0) (omega arith)

  -- what is found, from what the test says of all entries
  pub first_none : (m i : ℕ) → ((j : ℕ) → i ≤ j → j < i + m → f j ≡ false) → first_with f m i ≡ i + m
  unfolding first_with
  first_none zero i g = omega arith
  first_none (suc m) i g = rw (g i (omega arith) (omega arith)) (first_none m (i + 1) (λ j a b. g j (omega arith) (omega arith)) ∙ omega arith)

  pub first_is : (k m i : ℕ) → i ≤ k → k < i + m → ((j : ℕ) → i ≤ j → j < k → f j ≡ false) → f k ≡ true → first_with f m i ≡ k
  unfolding first_with
  first_is k zero i l r g e = absurd (omega arith)
  first_is k (suc m) i l r g e = go (leb (i + 1) k) refl (first_is k m (i + 1))
    where
      go : (t : Bool) → leb (i + 1) k ≡ t → (i + 1 ≤ k → k < i + 1 + m → ((j : ℕ) → i + 1 ≤ j → j < k → f j ≡ false) → f k ≡ true → first_with f m (i + 1) ≡ k) → first_with f (suc m) i ≡ k
      go true q ih =
          let z : i + 1 ≤ k = leb-true (i + 1) k q in
          rw (g i (omega arith) (omega arith)) (ih z (omega arith) (λ j u v. g j (omega arith) v) e)
      go false q ih =
          let z : k < i + 1 = leb-false (i + 1) k q in
          let y : i ≡ k = omega arith in
          rw (y, e)

  -- the first entry that passes the test passes it
  pub first_has : (n i : ℕ) → first_with f n i < i + n → f (first_with f n i) ≡ true
  unfolding first_with
  first_has zero i l = absurd (omega arith)
  first_has (suc n) i l = go (f i) refl l (first_has n (i + 1))
    where
      go : (b : Bool) → f i ≡ b → pick b i (first_with f n (i + 1)) < i + suc n → (first_with f n (i + 1) < i + 1 + n → f (first_with f n (i + 1)) ≡ true) → f (pick b i (first_with f n (i + 1))) ≡ true
      go true q m u = q
      go false q m u = u (omega arith)

  -- the one entry, from the two searches for it
  module _ (n i : ℕ) (qi : i ≡ first_with f n 0) (s : List ℕ) where
    pub one_none : n ≤ i → run (one_with f n) s ≡ failed (failing 7) 0
    unfolding one_with holds
    one_none h = simp (← qi, run_bind, run_must, le-ltb i n h)

    module _ (h : i < n) (j : ℕ) (qj : j ≡ first_with f (n - (i + 1)) (i + 1)) where
      pub one_twice : (j ≡ n → ⊥) → run (one_with f n) s ≡ failed (failing 8) 0
      unfolding one_with holds
      one_twice g = simp (← qi, ← qj, run_bind, run_must, lt-ltb i n h, ne_eqb j n g)

      pub one_found : j ≡ n → run (one_with f n) s ≡ passed i
      unfolding one_with holds
      one_found g = simp (← qi, ← qj, run_bind, run_must, run_done, lt-ltb i n h, eq-eqb j n g)

  -- the one entry is the first, and one of the n
  pub one_ok : (n k : ℕ) (s : List ℕ) → answer (one_with f n) s ≡ ok k → (first_with f n 0 ≡ k) × (k < n)
  unfolding one_with holds
  one_ok n k s w =
      let a = bind_ok _ _ s k w in
      let b = bind_ok _ _ s k a.2 in
      let e = done_ok _ k s b.2 in
      let l = ltb-true _ n (must_ok _ _ _ s a.0 a.1) in
      (e, omega arith)

  -- to find it needs no bytes
  pub one_needs_none : (n : ℕ) (s : List ℕ) → reach (one_with f n) s ≡ 0
  unfolding one_with
  one_needs_none n s = search (reach_none, reach_must, reach_done) depth 12

  -- and is refused with 7 or 8 alone
  pub one_refuses : (P : ℕ → ℕ → Type 0) (n : ℕ) (s : List ℕ) → P 7 0 → P 8 0 → Refuses P (one_with f n) s
  unfolding one_with
  one_refuses P n s a b = search (refuses_bind, refuses_must, refuses_done)

-- what holds of every refusal of entries in order, each reported by its number
pub order_refuses : (P : ℕ → ℕ → Type 0) (s : List ℕ) (t : ℕ → Check ℕ) → ((i : ℕ) → Refuses (λ n _. P n (i + 1)) (t i) s) → (n i x : ℕ) → Refuses P (in_order t n i x) s
unfolding in_order
order_refuses P s t h zero i x = refuses_done P x s
order_refuses P s t h (suc n) i x = refuses_bind P _ _ s (refuses_at (λ m _. P m (i + 1)) P (i + 1) (t i) s (λ m e q. q) (h i)) (λ y _. order_refuses P s t h n (i + 1) (max x y))

-- what is the same beyond b is the same beyond more
pub beyond : (b x e y : ℕ) → b ≤ x → max b e ≡ max b y → max x e ≡ max x y
beyond b x e y l q = omega arith

larger_of : (x e r : ℕ) → max x (max e r) ≡ max (max x e) r
larger_of x e r = omega arith

module _ (t : ℕ → Check ℕ) (s : List ℕ) where
  -- the checks from entry i on, from what those of entry i find
  module _ (i x : ℕ) where
    pub order_failed : (w : Test) (e : ℕ) → run (t i) s ≡ failed w e → (m : ℕ) → run (in_order t (suc m) i x) s ≡ failed w (i + 1)
    unfolding in_order
    order_failed w e q m = simp (run_bind, run_at, q)

    pub order_short : (a b e : ℕ) → run (t i) s ≡ short (record { start = a; end = b }) e → (m : ℕ) → run (in_order t (suc m) i x) s ≡ short (record { start = a; end = b }) (i + 1)
    unfolding in_order
    order_short a b e q m = simp (run_bind, run_at, q)

    pub order_wrong : (f : Failure Refusal) → outcome_of_failure f 0 ≡ run (t i) s → (m : ℕ) → outcome_of_failure f (i + 1) ≡ run (in_order t (suc m) i x) s
    order_wrong (Failed w) q m = sym (order_failed (test_of w) 0 (sym q) m)
    order_wrong (Short a b) q m = sym (order_short a b 0 (sym q) m)

    pub order_next : (y z : ℕ) → passed y ≡ run (t i) s → z ≡ max x y → (m : ℕ) → run (in_order t (suc m) i x) s ≡ run (in_order t m (i + 1) z) s
    unfolding in_order
    order_next y z q v m = simp (run_bind, run_at, ← q, v)

    pub order_end : passed x ≡ run (in_order t 0 i x) s
    unfolding in_order
    order_end = simp run_done

  -- checks that all pass, with ends of at most x, leave x
  pub order_passes : (x m i : ℕ) → ((k : ℕ) → i ≤ k → k < i + m → (y : ℕ) × (y ≤ x) × (answer (t k) s ≡ ok y)) → answer (in_order t m i x) s ≡ ok x
  unfolding in_order
  order_passes x zero i g = answer_done x s
  order_passes x (suc m) i g =
      let w = g i (omega arith) (omega arith) in
      let e : max x w.0 ≡ x = omega (arith, w.1) in
      simp (answer_bind, answer_at, w.2, e) (order_passes x m (i + 1) (λ k a b. g k (omega arith) (omega arith)))

  -- Each end is what the entry's checks need beyond b: then the largest is what all need beyond b, and every entry has answered an end of at most that.
  pub order_ends : (b n i x z : ℕ) → b ≤ x → ((j y : ℕ) → i ≤ j → j < i + n → answer (t j) s ≡ ok y → max b (reach (t j) s) ≡ max b y) → answer (in_order t n i x) s ≡ ok z → (max x (reach (in_order t n i x) s) ≡ z) × (x ≤ z) × ((j : ℕ) → i ≤ j → j < i + n → (y : ℕ) × (answer (t j) s ≡ ok y) × (y ≤ z))
  unfolding in_order
  order_ends b zero i x z l g w =
      let e : x ≡ z = done_ok x z s w in
      (simp (reach_done, e) (omega arith), omega arith, λ j h k. absurd (omega arith))
  order_ends b (suc n) i x z l g w =
      let a = bind_ok _ (λ y. in_order t n (i + 1) (max x y)) s z w in
      let y = a.0 in
      let o = at_ok (i + 1) (t i) s y a.1 in
      let r = order_ends b n (i + 1) (max x y) z (omega arith) (λ j v h k. g j v (omega arith) (omega arith)) a.2 in
      let f = beyond b x (reach (t i) s) y l (g i y (omega arith) (omega arith) o) in
      (simp (a.3, reach_at, larger_of, f) r.0, omega arith, λ j h k. span (λ (m : ℕ). m < i + suc n → (v : ℕ) × (answer (t m) s ≡ ok v) × (v ≤ z)) i j h (λ _. (y, o, omega arith)) (λ h₁ k₁. r.2 j (omega arith) (omega arith)) k)
