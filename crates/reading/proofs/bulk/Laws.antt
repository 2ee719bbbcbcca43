-- Numbers put side by side into a lent list, and the items of a bulk call.
use Prim.Native.Nat.{ℕ, zero, suc, ◌+◌, ◌-◌, ◌*◌, ◌≤◌}
use mathlib.Core.Path.{◌≡◌, refl, sym, ◌∙◌, ap}
use mathlib.Core.List.{List, [], ◌∷◌, ◌++◌}
use native.Mathlib.Nat.{add-zero, mul-zero, mul-suc, add_comm}
use native.Mathlib.Omega.{arith}
use lib.ListN.{length, set, drop, replicate, length-append, length-replicate}
use lib.Seq.{sets, length-sets}
use borrow.Author.Tests.{le-leb}
use Rattle.reading.specs.Check.{Check, Answer, ok, refused, answer}
use Rattle.reading.specs.Bulk.{record_of, records, OfItem, answered, forbidden, placed}

sets_append : (xs ys l : List ℕ) (i : ℕ) → sets (sets l i xs) (i + length xs) ys ≡ sets l i (xs ++ ys)
sets_append [] ys l i = ap (λ (k : ℕ). sets l k ys) (add-zero i)
sets_append (x ∷ xs) ys l i =
    let e : i + suc (length xs) ≡ suc i + length xs = omega arith in
    ap (λ (k : ℕ). sets (sets (set l i x) (suc i) xs) k ys) e ∙ sets_append xs ys (set l i x) (suc i)

-- the numbers ys behind the numbers xs that stand from place p on
pub set_behind : (o u v : List ℕ) (p : ℕ) (xs ys : List ℕ) → u ≡ sets o p xs → v ≡ sets u (p + length xs) ys → v ≡ sets o p (xs ++ ys)
set_behind o u v p xs ys e f = f ∙ ap (λ (x : List ℕ). sets x (p + length xs) ys) e ∙ sets_append xs ys o p

pub put_behind : (o u v : List ℕ) (p : ℕ) (xs ys : List ℕ) → u ≡ sets o p xs → v ≡ placed u (p + length xs) ys → p + length xs + length ys ≤ length o → v ≡ sets o p (xs ++ ys)
put_behind o u v p xs ys e f h =
    let l : length u ≡ length o = ap length e ∙ length-sets o p xs in
    set_behind o u v p xs ys e (f ∙ rw (le-leb (p + length xs + length ys) (length u) (omega arith)))

-- numbers that stand alone
pub put_front : (o u : List ℕ) (p : ℕ) (xs : List ℕ) → u ≡ placed o p xs → p + length xs ≤ length o → u ≡ sets o p xs
put_front o u p xs e h = e ∙ rw (le-leb (p + length xs) (length o) h)

-- what the call t for one item answers for n items from number `first` on
abbrev pub answers_from : {A : Type 0} → (ℕ → Check A) → List ℕ → ℕ → ℕ → List (Answer A)
answers_from t s first zero = []
answers_from t s first (suc n) = answer (t first) s ∷ answers_from t s (first + 1) n

-- the items that are answered one by one
pub answers_are : {A : Type 0} (t : ℕ → Check A) (s : List ℕ) (v : List (Answer A)) (first : ℕ) → ((j : ℕ) (r : Answer A) (l : List (Answer A)) → drop j v ≡ r ∷ l → r ≡ answer (t (first + j)) s) → v ≡ answers_from t s first (length v)
answers_are t s [] first h = refl
answers_are {A} t s (a ∷ v) first h =
    let e : a ≡ answer (t first) s = h 0 a v refl ∙ ap (λ (k : ℕ). answer (t k) s) (add-zero first) in
    let f = answers_are t s v (first + 1) (λ j r l q. h (suc j) r l q ∙ ap (λ (k : ℕ). answer (t k) s) (next first j)) in
    λ i. e i ∷ f i
  where
    next : (m j : ℕ) → m + suc j ≡ m + 1 + j
    next m j = omega arith

-- an answer that is refused with 11 alone
pub of_item : {A : Type 0} (a : Answer A) → ((n e : ℕ) → a ≡ refused n e → (n ≡ 11) × (e ≡ 0)) → OfItem a
of_item (ok b) h = answered b
of_item (refused n e) h =
    let q = h n e refl in
    rw (q.0, q.1) forbidden

-- records of w numbers, where the numbers of an answer are one fewer
module _ {A : Type 0} (w : ℕ) (numbers : A → List ℕ) (positive : 1 ≤ w) (fewer : (a : A) → suc (length (numbers a)) ≡ w) where
  pub record_wide : (a : Answer A) → length (record_of w numbers a) ≡ w
  record_wide (ok a) = fewer a
  record_wide (refused n e) =
      let z : length {A = ℕ} (replicate (w - 1) 0) ≡ w - 1 = length-replicate (w - 1) 0 in
      omega arith

  pub records_length : (v : List (Answer A)) → length (records w numbers v) ≡ w * length v
  records_length [] = sym (mul-zero w)
  records_length (a ∷ v) = length-append (record_of w numbers a) (records w numbers v) ∙ ap (λ (k : ℕ). k + length (records w numbers v)) (record_wide a) ∙ ap (λ (k : ℕ). w + k) (records_length v) ∙ sym (mul-suc w (length v) ∙ add_comm (w * length v) w)
