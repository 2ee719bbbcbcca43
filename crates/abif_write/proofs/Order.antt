-- Tags that ascend are all different.
use Prim.Native.Nat.{ℕ, zero, suc, ◌+◌, ◌-◌, ◌*◌, ◌<◌}
use mathlib.Core.Path.{◌≡◌, refl, sym, ◌∙◌, ap, subst}
use mathlib.Core.Bool.{Bool, true, false}
use native.Mathlib.Omega.{arith}
use lib.Dec.{ltb, eqb}
use lib.IntN.{ℤ, pos, negsuc}
use lib.Signed.{lt_z, mag}
use borrow.Author.Tests.{ltb-true, eqb-true}
use Rattle.reading.specs.Choice.{pick}
use Rattle.reading.specs.Number.{signed, bits}
use Rattle.reading.proofs.Tests.{no}
use Rattle.reading.proofs.Bits.{signed_bits}
use Rattle.abif_write.specs.declared.item.Item.{Item}
use Rattle.abif.specs.Tag.{tag_below}
use Rattle.abif_write.specs.Item.{tag_of, ordered}

-- a signed 32-bit number as an unsigned one, in the same order
rank : ℤ → ℕ
rank (pos n) = n + 0x80000000
rank (negsuc n) = 0x7fffffff - n

-- a tag as one number, in the tags' order
key : Item → ℕ
key d = d.name * 0x100000000 + rank d.number

rank_below : (x y : ℤ) → mag x < 0x80000000 → mag y < 0x80000000 → lt_z x y ≡ true → rank x < rank y
unfolding rank
rank_below (pos m) (pos n) h k e = omega (arith, ltb-true m n e)
rank_below (pos m) (negsuc n) h k e = no e
rank_below (negsuc m) (pos n) h k e = omega arith
rank_below (negsuc m) (negsuc n) h k e = omega (arith, ltb-true n m e)

rank_small : (z : ℤ) → mag z < 0x80000000 → rank z < 0x100000000
unfolding rank
rank_small (pos n) h = omega arith
rank_small (negsuc n) h = omega arith

key_below : (a c : Item) → mag a.number < 0x80000000 → mag c.number < 0x80000000 → tag_below (tag_of a) (tag_of c) ≡ true → key a < key c
unfolding key
key_below a c ha hc h = go (eqb a.name c.name) refl h
  where
    go : (t : Bool) → eqb a.name c.name ≡ t → pick t (lt_z a.number c.number) (ltb a.name c.name) ≡ true → a.name * 0x100000000 + rank a.number < c.name * 0x100000000 + rank c.number
    go true p e = omega (arith, eqb-true a.name c.name p, rank_below a.number c.number ha hc e)
    go false p e = omega (arith, ltb-true a.name c.name e, rank_small a.number ha, rank_small c.number hc)

module _ (g : ℕ → Item) (n : ℕ) (f : (k : ℕ) → mag (g k).number < 0x80000000) (o : (k : ℕ) → k < n → ordered g k ≡ true) where
  ascending : (j d : ℕ) → j + suc d < n → key (g j) < key (g (j + suc d))
  ascending j zero h =
      let e : j + 1 ≡ suc j = omega arith in
      rw e (key_below (g j) (g (suc j)) (f j) (f (suc j)) (o (suc j) (omega arith)))
  ascending j (suc d) h =
      let e : j + suc (suc d) ≡ suc (j + suc d) = omega arith in
      let a : key (g j) < key (g (j + suc d)) = ascending j d (omega arith) in
      let b : key (g (j + suc d)) < key (g (suc (j + suc d))) = key_below (g (j + suc d)) (g (suc (j + suc d))) (f (j + suc d)) (f (suc (j + suc d))) (o (suc (j + suc d)) (omega arith)) in
      rw e (omega arith)

  same_number : (j k : ℕ) → bits 4 (g j).number ≡ bits 4 (g k).number → (g j).number ≡ (g k).number
  same_number j k e = sym (signed_bits 4 (g j).number (omega arith) (f j)) ∙ ap (signed 4) e ∙ signed_bits 4 (g k).number (omega arith) (f k)

  -- two items have two tags, a number being told by its bits
  pub two_tags : (j k : ℕ) → j < k → k < n → ((g j).name ≡ (g k).name) × (bits 4 (g j).number ≡ bits 4 (g k).number) → ⊥
  unfolding key
  two_tags j k h l e =
      let z : j + suc (k - suc j) ≡ k = omega arith in
      let a : key (g j) < key (g k) = subst (λ (i : ℕ). key (g j) < key (g i)) z (ascending j (k - suc j) (omega arith)) in
      let b : key (g j) ≡ key (g k) = rw (e.0, same_number j k e.1) in
      omega arith
