-- What is said of n bytes, one after the other, is the same wherever these bytes stand.
use Prim.Native.Nat.{ℕ, zero, suc, ◌+◌, ◌≤◌, ◌<◌}
use mathlib.Core.Path.{◌≡◌, sym, ◌∙◌, ap}
use mathlib.Core.List.{List}
use native.Mathlib.Omega.{arith}
use lib.ListN.{length, take, drop, length-take, length-drop}

-- the n things from place p of l on are those from place q of m on, where f l p is what stands at place p of l
abbrev pub Same : {X : Type 0} → (List ℕ → ℕ → X) → List ℕ → ℕ → List ℕ → ℕ → ℕ → Type 0
Same f l p m q n = (i : ℕ) → i < n → f l (p + i) ≡ f m (q + i)

module _ {X : Type 0} (f : List ℕ → ℕ → X) (l m : List ℕ) (p q n : ℕ) (h : Same f l p m q (suc n)) where
  pub same_first : f l p ≡ f m q
  same_first = ap (f l) (omega arith) ∙ h 0 (omega arith) ∙ ap (f m) (omega arith)

  pub same_rest : Same f l (p + 1) m (q + 1) n
  same_rest i k = ap (f l) (omega arith) ∙ h (suc i) (omega arith) ∙ ap (f m) (omega arith)

-- G l p n is said of the n things from place p of l on: z of none, and a step for each
module _ {X Y : Type 0} (f : List ℕ → ℕ → X) (z : Y) (step : X → Y → Y) (G : List ℕ → ℕ → ℕ → Y) (none : (l : List ℕ) (p : ℕ) → G l p 0 ≡ z) (one : (l : List ℕ) (p n : ℕ) → G l p (suc n) ≡ step (f l p) (G l (p + 1) n)) where
  pub fold_same : (l m : List ℕ) (p q n : ℕ) → Same f l p m q n → G l p n ≡ G m q n
  fold_same l m p q zero h = none l p ∙ sym (none m q)
  fold_same l m p q (suc n) h = rw (one l p n, one m q n, same_first f l m p q n h, fold_same l m (p + 1) (q + 1) n (same_rest f l m p q n h))

-- the part that the n bytes from place p on fill, whose size the code computes as k
pub window_length : (l : List ℕ) (p n k : ℕ) → k ≡ n → p + n ≤ length l → length (take k (drop p l)) ≡ n
window_length l p n k e h = simp (length-take, length-drop) (omega arith)
