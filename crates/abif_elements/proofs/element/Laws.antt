-- Elements, from the answers of their parts.
use Prim.Native.Nat.{ℕ, ◌+◌, ◌-◌, ◌*◌, ◌^◌, ◌≤◌, ◌<◌}
use mathlib.Core.Path.{◌≡◌, ◌∙◌, ap}
use mathlib.Core.List.{List}
use mathlib.Core.Logic.{◌⊎◌, inl, inr}
use mathlib.Core.Bool.{Bool, true, false, not}
use lib.IntN.{ℤ, pos}
use lib.ListN.{length, take}
use lib.Dec.{eqb}
use lib.Ieee.{binary32, binary64, of_bits}
use native.Mathlib.Nat.{mul-suc, mul-le-mul_left}
use native.Mathlib.Omega.{arith}
use borrow.Author.Tests.{le-leb, lt-leb, ne_eqb}
use Rattle.reading.specs.Choice.{is_number_of}
use Rattle.reading.specs.Number.{be, signed}
use Rattle.reading.specs.Check.{ok, refused, answer, holds}
use Rattle.reading.proofs.Product.{below}
use Rattle.reading.proofs.Steps.{answer_bind, answer_must, answer_done, answer_need_present}
use Rattle.contents.specs.Date.{is_date}
use Rattle.contents.specs.Time.{is_time}
use Rattle.abif.specs.declared.entry.ElementType.TheVariants.{Listed}
use Rattle.reading.specs.declared.item.ItemData.{ItemData}
use Rattle.abif.specs.Entry.{type_of}
use Rattle.abif_elements.specs.Element.{whole, single, double, date, time, bool, thumb, whole_at, date_at, time_at, value_at, is_listed, element_of}

-- the place of an element is a machine's number
pub place_below : {s w i : ℕ} → s < 0x100000000 → w < 2 ^ 16 → i < 2 ^ 32 → s + w * i < 0x2000000000000
place_below {s} {w} {i} a b c = omega (arith, below 16 32 {a = w} {b = i} b c)

-- an element lies within the elements
pub inside : (w i n : ℕ) → 1 ≤ i → i ≤ n → w * (i - 1) + w ≤ w * n
inside w i n a b =
    let e : w * i ≡ w * (i - 1) + w = ap (λ (k : ℕ). w * k) (omega arith) ∙ mul-suc w (i - 1) in
    omega (arith, mul-le-mul_left w b)

-- an index that is below one or over the count
pub outside : (i n : ℕ) → (i < 1) ⊎ ((1 ≤ i) × (n < i)) → is_number_of i n ≡ false
outside i n (inl a) = rw (lt-leb 1 i a)
outside i n (inr b) = rw (le-leb 1 i b.0, lt-leb i n b.1)

-- the whole number of each type
module _ (l : List ℕ) (p k : ℕ) where
  pub whole_one : k ≡ 1 → pos (be 1 l p) ≡ whole_at k l p
  unfolding whole_at
  whole_one e = rw e

  pub whole_char : k ≡ 2 → signed 1 (be 1 l p) ≡ whole_at k l p
  unfolding whole_at
  whole_char e = rw e

  pub whole_word : k ≡ 3 → pos (be 2 l p) ≡ whole_at k l p
  unfolding whole_at
  whole_word e = rw e

  pub whole_short : k ≡ 4 → signed 2 (be 2 l p) ≡ whole_at k l p
  unfolding whole_at
  whole_short e = rw e

  pub whole_long : k ≡ 5 → signed 4 (be 4 l p) ≡ whole_at k l p
  unfolding whole_at
  whole_long e = rw e

  pub whole_byte : (k ≡ 1 → ⊥) → (k ≡ 2 → ⊥) → (k ≡ 3 → ⊥) → (k ≡ 4 → ⊥) → (k ≡ 5 → ⊥) → pos (be 1 l p) ≡ whole_at k l p
  unfolding whole_at
  whole_byte e a b c d = rw (ne_eqb k 1 e, ne_eqb k 2 a, ne_eqb k 3 b, ne_eqb k 4 c, ne_eqb k 5 d)

-- a date and a time, from their fields and whether the rule holds of these
module _ (l s : List ℕ) (p : ℕ) (y : ℤ) (m d : ℕ) (ey : y ≡ signed 2 (be 2 l p)) (em : m ≡ be 1 l (p + 2)) (ed : d ≡ be 1 l (p + 3)) (r : Bool) (e : r ≡ is_date y m d) where
  pub date_good : r ≡ true → ok (date y m d) ≡ answer (date_at l p) s
  unfolding date_at holds
  date_good h = simp (answer_bind, answer_must, answer_done, ← ey, ← em, ← ed, ← e, h)

  pub date_bad : r ≡ false → refused 11 0 ≡ answer (date_at l p) s
  unfolding date_at holds
  date_bad h = simp (answer_bind, answer_must, ← ey, ← em, ← ed, ← e, h)

module _ (l s : List ℕ) (p a m n c : ℕ) (ea : a ≡ be 1 l p) (em : m ≡ be 1 l (p + 1)) (en : n ≡ be 1 l (p + 2)) (ec : c ≡ be 1 l (p + 3)) (r : Bool) (e : r ≡ is_time a m n c) where
  pub time_good : r ≡ true → ok (time a m n c) ≡ answer (time_at l p) s
  unfolding time_at holds
  time_good h = simp (answer_bind, answer_must, answer_done, ← ea, ← em, ← en, ← ec, ← e, h)

  pub time_bad : r ≡ false → refused 11 0 ≡ answer (time_at l p) s
  unfolding time_at holds
  time_bad h = simp (answer_bind, answer_must, ← ea, ← em, ← en, ← ec, ← e, h)

-- the element of each type
module _ (l : List ℕ) (p k : ℕ) (s : List ℕ) where
  pub value_single : k ≡ 7 → ok (single (of_bits binary32 (be 4 l p)) (be 4 l p)) ≡ answer (value_at k l p) s
  unfolding value_at answer
  value_single e = rw e

  pub value_double : k ≡ 8 → ok (double (of_bits binary64 (be 8 l p)) (be 8 l p)) ≡ answer (value_at k l p) s
  unfolding value_at answer
  value_double e = rw e

  pub value_date : k ≡ 10 → answer (date_at l p) s ≡ answer (value_at k l p) s
  unfolding value_at
  value_date e = rw e

  pub value_time : k ≡ 11 → answer (time_at l p) s ≡ answer (value_at k l p) s
  unfolding value_at
  value_time e = rw e

  pub value_thumb : k ≡ 12 → ok (thumb (signed 4 (be 4 l p)) (signed 4 (be 4 l (p + 4))) (be 1 l (p + 8)) (be 1 l (p + 9))) ≡ answer (value_at k l p) s
  unfolding value_at answer
  value_thumb e = rw e

  pub value_bool : k ≡ 13 → ok (bool (not (eqb (be 1 l p) 0))) ≡ answer (value_at k l p) s
  unfolding value_at answer
  value_bool e = rw e

  pub value_whole : (k ≡ 7 → ⊥) → (k ≡ 8 → ⊥) → (k ≡ 10 → ⊥) → (k ≡ 11 → ⊥) → (k ≡ 12 → ⊥) → (k ≡ 13 → ⊥) → ok (whole (whole_at k l p)) ≡ answer (value_at k l p) s
  unfolding value_at answer
  value_whole a b c d e f = rw (ne_eqb k 7 a, ne_eqb k 8 b, ne_eqb k 10 c, ne_eqb k 11 d, ne_eqb k 12 e, ne_eqb k 13 f)

-- element i of the item q
module _ (s : List ℕ) (q : ItemData) (i : ℕ) where
  pub of_raw : is_listed (type_of q.code) ≡ false → refused 10 0 ≡ answer (element_of q i) s
  unfolding element_of holds
  of_raw f = simp (answer_bind, answer_must, f)

  module _ (w : ℕ) (t : type_of q.code ≡ Listed w) where
    pub of_none : is_number_of i q.count ≡ false → refused 12 0 ≡ answer (element_of q i) s
    unfolding element_of holds
    of_none f = simp (answer_bind, answer_must, t, f)

    pub of_value : (p : ℕ) → p ≡ q.start + w * (i - 1) → is_number_of i q.count ≡ true → q.start + q.size ≤ length s → answer (value_at q.code (take (q.start + q.size) s) p) s ≡ answer (element_of q i) s
    unfolding element_of holds
    of_value p e f h = rw e (simp (answer_bind, answer_must, t, f, answer_need_present q.start (q.start + q.size) s h))
