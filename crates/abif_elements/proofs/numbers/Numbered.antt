-- The numbers of the bulk call are the elements from number `first` on: at least one, and as many as are left and as fit.
use Prim.Native.Nat.{ℕ, zero, suc, ◌+◌, ◌-◌, ◌*◌, ◌≤◌}
use mathlib.Core.Path.{◌≡◌, refl, sym, ◌∙◌, ap}
use mathlib.Core.Logic.{◌⊎◌, inl, inr}
use mathlib.Core.List.{List, [], ◌∷◌}
use mathlib.Core.Bool.{Bool, true, false}
use native.Mathlib.Nat.{mul-add, mul-suc}
use native.Mathlib.Omega.{arith}
use lib.Dec.{leb}
use lib.IntN.{ℤ}
use lib.ListN.{length, drop, length-drop}
use borrow.Author.Tests.{le-leb, leb-true, leb-false}
use Rattle.reading.specs.Choice.{is_number_of}
use Rattle.reading.specs.Check.{ok, refused, answer, holds}
use Rattle.reading.specs.Bulk.{left_from, fitting}
use Rattle.reading.proofs.Steps.{answer_bind, answer_must}
use Rattle.reading.proofs.Passed.{bind_ok, bind_answered, done_ok, must_ok}
use Rattle.reading.proofs.Match.{among_each}
use Rattle.reading.proofs.Tests.{number_within}
use Rattle.reading.specs.declared.item.ItemData.{ItemData}
use Rattle.abif.specs.Entry.{type_of}
use Rattle.abif.specs.Lookup.{looking_up}
use Rattle.abif_elements.specs.Element.{whole, whole_at, value_at, is_listed, size_of, element_place, item_bytes, element_of, element_reading}
use Rattle.abif_elements.specs.Numbers.{is_whole, wholes_at, numbers_of_item, numbers_reading}
use Rattle.abif_elements.proofs.Refused.{numbers_refuses}
use Rattle.abif_elements.proofs.numbers.Laws.{length_wholes, whole_listed}

-- number j of those from place p on stands j times w bytes behind it
each_whole : (k w : ℕ) (l : List ℕ) (p n j : ℕ) (z : ℤ) (r : List ℤ) → drop j (wholes_at k w l p n) ≡ z ∷ r → whole_at k l (p + w * j) ≡ z
unfolding wholes_at
each_whole k w l p zero j z r e =
    let h : length (drop j (wholes_at k w l p zero)) ≡ length (wholes_at k w l p zero) - j = length-drop j (wholes_at k w l p zero) in
    let q : length (drop j (wholes_at k w l p zero)) ≡ suc (length r) = ap length e in
    absurd (omega arith)
each_whole k w l p (suc n) zero z r e = let v : whole_at k l p ≡ z = cc in ap (whole_at k l) (omega arith) ∙ v
each_whole k w l p (suc n) (suc j) z r e = ap (whole_at k l) (rw (mul-suc w j) (omega arith)) ∙ each_whole k w l (p + w) n j z r e

-- the element of a whole-number type
whole_value : (l : List ℕ) (p : ℕ) (s : List ℕ) (k : ℕ) → is_whole k ≡ true → answer (value_at k l p) s ≡ ok (whole (whole_at k l p))
unfolding is_whole value_at answer
whole_value l p s k = among_each (λ n. answer (value_at n l p) s ≡ ok (whole (whole_at n l p))) k (1 ∷ 2 ∷ 3 ∷ 4 ∷ 5 ∷ 18 ∷ 19 ∷ []) (refl, (refl, (refl, (refl, (refl, (refl, (refl, tt)))))))

-- element i of an item of whole numbers
module _ (s : List ℕ) (q : ItemData) (t : is_whole q.code ≡ true) where
  listed : is_listed (type_of q.code) ≡ true
  listed = rw (whole_listed q.code t)

  element_whole : (l : List ℕ) (i : ℕ) → is_number_of i q.count ≡ true → answer (item_bytes q) s ≡ ok l → answer (element_of q i) s ≡ ok (whole (whole_at q.code l (element_place q i)))
  unfolding element_of holds
  element_whole l i n e = simp (answer_bind, answer_must, listed, n, e) (whole_value l (element_place q i) s q.code t)

  element_none : (i : ℕ) → is_number_of i q.count ≡ false → answer (element_of q i) s ≡ refused 12 0
  unfolding element_of holds
  element_none i n = simp (answer_bind, answer_must, listed, n)

module _ (s : List ℕ) (a b first room : ℕ) where
  pub numbers_of : (v : List ℤ) → answer (numbers_reading a b first room) s ≡ ok v → (1 ≤ length v) × (length v ≤ room) × ((j : ℕ) (z : ℤ) (l : List ℤ) → drop j v ≡ z ∷ l → answer (element_reading a b (first + j)) s ≡ ok (whole z)) × ((room ≡ length v) ⊎ (answer (element_reading a b (first + length v)) s ≡ refused 12 0))
  unfolding numbers_reading numbers_of_item element_reading holds
  numbers_of v w =
      let c = bind_ok (looking_up a b) _ s v w in
      let q = c.0 in
      let d = bind_ok _ _ s v c.2 in
      let f = bind_ok _ _ s v d.2 in
      let g = bind_ok _ _ s v f.2 in
      let h = bind_ok (item_bytes q) _ s v g.2 in
      let t = must_ok _ _ _ s d.0 d.1 in
      let n = number_within first q.count (must_ok _ _ _ s f.0 f.1) in
      let r = leb-true 1 room (must_ok _ _ _ s g.0 g.1) in
      let k = q.code in
      let y = size_of (type_of k) in
      let m = fitting 1 (left_from q.count first) room in
      let e : wholes_at k y h.0 (element_place q first) m ≡ v = done_ok _ v s h.2 in
      let u : length v ≡ m = ap length (sym e) ∙ length_wholes k y h.0 (element_place q first) m in (
        omega arith,
        omega arith,
        λ j z l x.
            let o : length (drop j v) ≡ length v - j = length-drop j v in
            let p : length (drop j v) ≡ suc (length l) = ap length x in
            let i : is_number_of (first + j) q.count ≡ true = rw (le-leb 1 (first + j) (omega arith), le-leb (first + j) q.count (omega arith)) in
            let place : element_place q (first + j) ≡ element_place q first + y * j = ap (λ (m : ℕ). q.start + m) (ap (λ (m : ℕ). y * m) (omega arith) ∙ mul-add y (first - 1) j) ∙ omega arith in
            sym (bind_answered (looking_up a b) _ s q c.1) ∙ element_whole s q t h.0 (first + j) i h.1 ∙ ap (λ (z : ℤ). ok (whole z)) (ap (whole_at k h.0) place ∙ each_whole k y h.0 (element_place q first) m j z l (ap (drop j) e ∙ x)),
        all q c.1 t v (omega arith) n.0 u,
      )
    where
      all : (q : ItemData) → answer (looking_up a b) s ≡ ok q → is_whole q.code ≡ true → (v : List ℤ) → 1 ≤ room → 1 ≤ first → length v ≡ fitting 1 (left_from q.count first) room → (room ≡ length v) ⊎ (answer (element_reading a b (first + length v)) s ≡ refused 12 0)
      all q e t v r f n = go (leb (first + length v) q.count) refl
        where
          go : (x : Bool) → leb (first + length v) q.count ≡ x → (room ≡ length v) ⊎ (answer (element_reading a b (first + length v)) s ≡ refused 12 0)
          go true o = let p = leb-true (first + length v) q.count o in inl (omega arith)
          go false o = inr (sym (bind_answered (looking_up a b) _ s q e) ∙ element_none s q t (first + length v) (rw (le-leb 1 (first + length v) (omega arith), o)))

  -- 13 only where not one fits
  pub no_room : (e : ℕ) → answer (numbers_reading a b first room) s ≡ refused 13 e → room ≡ 0
  no_room e w = (numbers_refuses (λ n _. n ≡ 13 → room ≡ 0) (λ n h l. absurd (omega (arith, (number_within n 10 h).1))) s (λ l. absurd (omega arith)) a b first room (λ f _. omega (arith, leb-false 1 room f))).told 13 e w refl
