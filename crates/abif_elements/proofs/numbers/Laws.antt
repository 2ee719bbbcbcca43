-- The copied numbers, from the answers of their parts.
use Prim.Native.Nat.{ℕ, zero, suc, ◌+◌, ◌-◌, ◌*◌, ◌≤◌, ◌<◌, min}
use mathlib.Core.Path.{◌≡◌, refl, sym, ◌∙◌, ap}
use mathlib.Core.List.{List, [], ◌∷◌, ◌++◌}
use mathlib.Core.Bool.{true, false}
use native.Mathlib.Nat.{mul-suc, mul-add, mul-le-mul_left}
use native.Mathlib.Numerals.{add-one}
use native.Mathlib.Omega.{arith}
use borrow.Author.Tests.{le-leb, lt-leb}
use lib.IntN.{ℤ}
use lib.ListN.{length, take, drop}
use lib.Seq.{drop-length}
use Rattle.std.proofs.lemmas.List.{append-nil}
use Rattle.reading.specs.Choice.{is_number_of}
use Rattle.reading.specs.Check.{ok, refused, answer, map_answer, holds}
use Rattle.reading.specs.Bulk.{left_from, fitting}
use Rattle.reading.specs.Lent.{filled}
use Rattle.reading.proofs.Match.{among_each}
use Rattle.reading.proofs.Steps.{answer_bind, answer_must, answer_done, answer_need_present}
use Rattle.reading.specs.declared.item.ItemData.{ItemData}
use Rattle.abif.specs.declared.entry.ElementType.TheVariants.{Listed}
use Rattle.abif.specs.Entry.{type_of}
use Rattle.abif_elements.specs.Element.{whole_at, size_of, element_place}
use Rattle.abif_elements.specs.Numbers.{is_whole, wholes_at, numbers_of_item}

pub length_wholes : (k w : ℕ) (l : List ℕ) (p n : ℕ) → length (wholes_at k w l p n) ≡ n
unfolding wholes_at
length_wholes k w l p zero = refl
length_wholes k w l p (suc n) = ap suc (length_wholes k w l (p + w) n)

-- what fills the whole output leaves nothing of it
pub all_wholes : (k w : ℕ) (l : List ℕ) (p : ℕ) (out : List ℤ) → wholes_at k w l p (length out) ++ drop (length out) out ≡ wholes_at k w l p (length out)
all_wholes k w l p out = rw (drop-length out) (append-nil _)

-- the numbers of the item q from number `first` on
module _ (s : List ℕ) (q : ItemData) (first room : ℕ) where
  pub of_other : is_whole q.code ≡ false → answer (numbers_of_item q first room) s ≡ refused 10 0
  unfolding numbers_of_item holds
  of_other f = simp (answer_bind, answer_must, f)

  module _ (t : is_whole q.code ≡ true) where
    pub of_none : is_number_of first q.count ≡ false → answer (numbers_of_item q first room) s ≡ refused 12 0
    unfolding numbers_of_item holds
    of_none f = simp (answer_bind, answer_must, t, f)

    module _ (f : is_number_of first q.count ≡ true) where
      pub of_little : room < 1 → answer (numbers_of_item q first room) s ≡ refused 13 0
      unfolding numbers_of_item holds
      of_little g = simp (answer_bind, answer_must, t, f, lt-leb 1 room g)

      pub of_numbers : 1 ≤ room → q.start + q.size ≤ length s → answer (numbers_of_item q first room) s ≡ ok (wholes_at q.code (size_of (type_of q.code)) (take (q.start + q.size) s) (element_place q first) (fitting 1 (left_from q.count first) room))
      unfolding numbers_of_item holds
      of_numbers g h = simp (answer_bind, answer_must, answer_done, t, f, le-leb 1 room g, answer_need_present q.start (q.start + q.size) s h)

-- what is answered, and what the output then holds, where n numbers are copied
pub of_copied : (s : List ℕ) (q : ItemData) (first : ℕ) (out out' : List ℤ) (w p n : ℕ) → p ≡ q.start + w * (first - 1) → w ≡ size_of (type_of q.code) → n ≡ min (left_from q.count first) (length out) → is_whole q.code ≡ true → is_number_of first q.count ≡ true → 1 ≤ length out → q.start + q.size ≤ length s → out' ≡ wholes_at q.code w (take (q.start + q.size) s) p n ++ drop n out → (ok n ≡ map_answer length (answer (numbers_of_item q first (length out)) s)) × (out' ≡ filled (answer (numbers_of_item q first (length out)) s) out)
of_copied s q first out out' w p n a e m t f g h c =
    let r = of_numbers s q first (length out) t f g h in
    let k : n ≡ fitting 1 (left_from q.count first) (length out) = omega arith in
    (rw (r, k) (ap ok (sym (length_wholes _ _ _ _ _))), c ∙ rw (r, a, e, k, length_wholes))

-- the bytes of the numbers that are left, before and after one of them
pub next_place : (w n i : ℕ) → i < n → w * (n - i) ≡ w * (n - (i + 1)) + w
next_place w n i h = ap (λ (k : ℕ). w * k) (omega arith) ∙ mul-suc w (n - (i + 1))

pub first_place : (w n : ℕ) → w * (n - 0) ≡ w * n
first_place w n = ap (λ (k : ℕ). w * k) (omega arith)

-- the numbers from number i on
pub next_whole : (k w : ℕ) (l : List ℕ) (p i m : ℕ) → wholes_at k w l (p + w * i) (suc m) ≡ whole_at k l (p + w * i) ∷ wholes_at k w l (p + w * (i + 1)) m
unfolding wholes_at
next_whole k w l p i m =
    let e : p + w * i + w ≡ p + w * (i + 1) = rw (add-one i, mul-suc w i) (omega arith) in
    ap (λ (q : ℕ). whole_at k l (p + w * i) ∷ wholes_at k w l q m) e

-- m numbers from number `first` on end within an item of n
pub last_place : (w first m n : ℕ) → first - 1 + m ≤ n → w * (first - 1) + w * m ≤ w * n
last_place w first m n h = rw (← mul-add w (first - 1) m) (mul-le-mul_left w h)

-- a type of whole numbers is listed
pub whole_listed : (k : ℕ) → is_whole k ≡ true → type_of k ≡ Listed (size_of (type_of k))
unfolding is_whole type_of
whole_listed k = among_each (λ n. type_of n ≡ Listed (size_of (type_of n))) k (1 ∷ 2 ∷ 3 ∷ 4 ∷ 5 ∷ 18 ∷ 19 ∷ []) (refl, (refl, (refl, (refl, (refl, (refl, (refl, tt)))))))
