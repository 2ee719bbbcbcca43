-- The checks of items, from the answers of their parts, and what they show.
use Prim.Native.Nat.{ℕ, zero, suc, ◌+◌, ◌-◌, ◌≤◌, ◌<◌}
use mathlib.Core.Path.{◌≡◌, refl, sym, ◌∙◌, subst}
use mathlib.Core.List.{List, []}
use mathlib.Core.Bool.{Bool, true, false, not}
use native.Mathlib.Omega.{arith}
use lib.Dec.{leb, eqb}
use lib.ListN.{length, take, drop}
use borrow.Author.Tests.{le-leb, lt-leb, leb-true, leb-false, eqb-true}
use Rattle.reading.specs.Choice.{pick}
use Rattle.reading.specs.Check.{ok, refused, answer, holds}
use Rattle.reading.proofs.Steps.{answer_bind, answer_must, answer_done}
use Rattle.reading.proofs.Passed.{bind_ok, must_ok}
use Rattle.reading.proofs.Tests.{no}
use Rattle.abif.specs.Entry.{type_of}
use Rattle.abif.specs.declared.tag.Tag.{Tag}
use Rattle.abif.specs.Tag.{tag_below}
use Rattle.abif_write.specs.declared.item.Item.{Item}
use Rattle.abif_write.specs.ItemContents.{contents_hold}
use Rattle.abif_write.specs.Item.{Records, same_lengths, is_taken, count_check, item_check, tag_of, ordered, items_check}
use Rattle.abif_write.specs.Private.{SameLengths, Sound}

-- a test that the code negates
pub denied : (b : Bool) → not b ≡ true → b ≡ false
denied true h = sym h
denied false h = refl

pub granted : (b : Bool) → not b ≡ false → b ≡ true
granted true h = refl
granted false h = sym h

-- the tests of an item: its part, then its type
module _ (b : List ℕ) (d : Item) where
  pub item_outside : length b < d.start + d.size → refused 9 0 ≡ answer (item_check b d) []
  unfolding item_check holds
  item_outside h = simp (answer_bind, answer_must, lt-leb (d.start + d.size) (length b) h)

  pub item_type : d.start + d.size ≤ length b → (t : Bool) → t ≡ is_taken (type_of d.element_type) d.element_type → t ≡ false → refused 10 0 ≡ answer (item_check b d) []
  unfolding item_check holds
  item_type h t et f = simp (answer_bind, answer_must, le-leb (d.start + d.size) (length b) h, ← et, f)

-- an item whose part is there and whose type is taken
module _ (b : List ℕ) (d : Item) (h : d.start + d.size ≤ length b) (t : Bool) (et : t ≡ is_taken (type_of d.element_type) d.element_type) (f : t ≡ true) where
  pub item_count : (n : ℕ) → refused n 0 ≡ answer (count_check d) [] → refused n 0 ≡ answer (item_check b d) []
  unfolding item_check holds
  item_count n q = simp (answer_bind, answer_must, le-leb (d.start + d.size) (length b) h, ← et, f, ← q)

  -- y says of the part that was cut out whether its contents hold
  pub item_contents : ok tt ≡ answer (count_check d) [] → (y : Bool) → y ≡ contents_hold d.element_type d.count (take (d.start + d.size - d.start) (drop d.start b)) → pick y (ok tt) (refused 11 0) ≡ answer (item_check b d) []
  unfolding item_check holds
  item_contents q y e =
      let k : d.start + d.size - d.start ≡ d.size = omega arith in
      simp (answer_bind, answer_must, le-leb (d.start + d.size) (length b) h, ← et, f, ← q, rw k at e)

  module _ (q : ok tt ≡ answer (count_check d) []) (y : Bool) (ey : y ≡ contents_hold d.element_type d.count (take (d.start + d.size - d.start) (drop d.start b))) where
    pub item_bad : y ≡ false → refused 11 0 ≡ answer (item_check b d) []
    item_bad p = item_contents q false (sym p ∙ ey)

    pub item_good : y ≡ true → ok tt ≡ answer (item_check b d) []
    item_good p = item_contents q true (sym p ∙ ey)

-- what the count's check leaves
pub count_few : (d : Item) → ok tt ≡ answer (count_check d) [] → d.count < 0x80000000
unfolding count_check holds
count_few d e =
    let z = bind_ok _ _ [] tt (sym e) in
    leb-false _ _ (denied _ (must_ok _ _ _ [] z.0 z.1))

-- a turn of the loop over items
module _ (g : ℕ → Item) (b : List ℕ) (i : ℕ) (d : Item) (e : d ≡ g i) where
  pub items_stop : (n : ℕ) → refused n 0 ≡ answer (item_check b d) [] → (m : ℕ) → answer (items_check g b (suc m) i) [] ≡ refused n 0
  unfolding items_check
  items_stop n f m = simp (answer_bind, ← e, ← f)

  module _ (f : ok tt ≡ answer (item_check b d) []) (t : Bool) (et : t ≡ ordered g i) where
    pub items_order : t ≡ false → (m : ℕ) → answer (items_check g b (suc m) i) [] ≡ refused 14 0
    unfolding items_check holds
    items_order q m = simp (answer_bind, answer_must, ← e, ← f, ← et, q)

    pub items_next : t ≡ true → (m : ℕ) → answer (items_check g b (suc m) i) [] ≡ answer (items_check g b m (i + 1)) []
    unfolding items_check holds
    items_next q m = simp (answer_bind, answer_must, ← e, ← f, ← et, q)

pub items_end : (g : ℕ → Item) (b : List ℕ) (i : ℕ) → ok tt ≡ answer (items_check g b 0 i) []
unfolding items_check
items_end g b i = sym (answer_done tt [])

-- the tag of an item and that of the one before it
pub order_at : (g : ℕ → Item) (i : ℕ) (x y : Tag) → (i ≡ 0 → ⊥) → x ≡ tag_of (g (i - 1)) → y ≡ tag_of (g i) → tag_below x y ≡ ordered g i
order_at g zero x y h ex ey = absurd (h refl)
order_at g (suc i) x y h ex ey =
    let k : suc i - 1 ≡ i = omega arith in
    rw (ex, ey, k)

-- what the checks of the items show
module _ (g : ℕ → Item) (b : List ℕ) where
  item_sound : (d : Item) (u : Unit {0}) → answer (item_check b d) [] ≡ ok u → Sound b d
  unfolding item_check count_check holds
  item_sound d u h =
      let x = bind_ok _ _ [] u h in
      let y = bind_ok _ _ [] u x.2 in
      let v = bind_ok _ _ [] u y.2 in
      let z = bind_ok _ _ [] v.0 v.1 in
      let w = bind_ok _ _ [] v.0 z.2 in
      record {
        present = leb-true _ _ (must_ok _ _ _ [] x.0 x.1);
        taken = must_ok _ _ _ [] y.0 y.1;
        count_fits = leb-false _ _ (denied _ (must_ok _ _ _ [] z.0 z.1));
        size_fits = leb-false _ _ (denied _ (must_ok _ _ _ [] w.0 w.1));
        sized = eqb-true _ _ (must_ok _ _ _ [] v.0 w.2);
      }

  -- item k of those from i on: it is sound and in order
  pub items_sound : (m i : ℕ) (u : Unit {0}) → answer (items_check g b m i) [] ≡ ok u → (k : ℕ) → i ≤ k → k < i + m → Sound b (g k) × (ordered g k ≡ true)
  unfolding items_check holds
  items_sound zero i u h k p q = absurd (omega arith)
  items_sound (suc m) i u h k p q =
      let x = bind_ok (item_check b (g i)) _ [] u h in
      let y = bind_ok _ _ [] u x.2 in
      go (leb (i + 1) k) refl (item_sound (g i) x.0 x.1, must_ok _ _ _ [] y.0 y.1) (items_sound m (i + 1) u y.2 k)
    where
      go : (t : Bool) → leb (i + 1) k ≡ t → Sound b (g i) × (ordered g i ≡ true) → (i + 1 ≤ k → k < i + 1 + m → Sound b (g k) × (ordered g k ≡ true)) → Sound b (g k) × (ordered g k ≡ true)
      go true e s f = f (leb-true (i + 1) k e) (omega arith)
      go false e s f =
          let z : k < i + 1 = leb-false (i + 1) k e in
          let w : i ≡ k = omega arith in
          subst (λ (j : ℕ). Sound b (g j) × (ordered g j ≡ true)) w s

-- slices of one length
pub lengths_same : (r : Records) → same_lengths r ≡ true → SameLengths r
lengths_same r h =
    go (eqb (length r.numbers) (length r.names)) refl (eqb (length r.types) (length r.names)) refl (eqb (length r.counts) (length r.names)) refl (eqb (length r.starts) (length r.names)) refl h
  where
    go : (a : Bool) → eqb (length r.numbers) (length r.names) ≡ a → (b : Bool) → eqb (length r.types) (length r.names) ≡ b → (c : Bool) → eqb (length r.counts) (length r.names) ≡ c → (d : Bool) → eqb (length r.starts) (length r.names) ≡ d → pick a (pick b (pick c (pick d (eqb (length r.lengths) (length r.names)) false) false) false) false ≡ true → SameLengths r
    go true a true b true c true d e =
        record { of_numbers = eqb-true _ _ a; of_types = eqb-true _ _ b; of_counts = eqb-true _ _ c; of_starts = eqb-true _ _ d; of_lengths = eqb-true _ _ e }
    go false a s b t c u d e = no e
    go true a false b t c u d e = no e
    go true a true b false c u d e = no e
    go true a true b true c false d e = no e
