-- The search for a zero, and the rules of texts.
use Prim.Native.Nat.{ℕ, suc, ◌+◌, ◌-◌, ◌≤◌}
use mathlib.Core.Path.{◌≡◌, refl, sym, ◌∙◌, ap}
use mathlib.Core.List.{List, [], ◌∷◌, ◌++◌}
use mathlib.Core.Bool.{Bool, true, false, not, ◌||◌}
use lib.ListN.{length, take, get_or, get_or-append, length-append, length-take}
use lib.Seq.{get_or-take, get_or-append-add}
use native.Mathlib.Omega.{arith}
use lib.Dec.{leb, eqb}
use borrow.Author.Tests.{leb-true, le-leb}
use Rattle.reading.specs.Choice.{pick}
use Rattle.reading.specs.Number.{be}
use Rattle.reading.proofs.Fold.{Same, fold_same}
use Rattle.reading.proofs.Tests.{no}
use Rattle.reading.proofs.Width.{byte_le, le_byte}
use Rattle.contents.specs.Text.{zero_among, is_pstring, is_cstring}

-- a turn of the loop that looks for a zero: found says whether there was one before
pub zero_on : (l : List ℕ) (i : ℕ) (found : Bool) (m : ℕ) → pick found true (zero_among l i (suc m)) ≡ pick (found || eqb (get_or l i 0) 0) true (zero_among l (i + 1) m)
unfolding zero_among
zero_on l i found m = go found (eqb (get_or l i 0) 0)
  where
    go : (a b : Bool) → pick a true (pick b true (zero_among l (i + 1) m)) ≡ pick (a || b) true (zero_among l (i + 1) m)
    go true b = refl
    go false true = refl
    go false false = refl

pub zero_end : (l : List ℕ) (i : ℕ) (found : Bool) → pick found true (zero_among l i 0) ≡ found
unfolding zero_among
zero_end l i true = refl
zero_end l i false = refl

abbrev byte_at : List ℕ → ℕ → ℕ
byte_at l p = get_or l p 0

zero_same : (l m : List ℕ) (p q n : ℕ) → Same byte_at l p m q n → zero_among l p n ≡ zero_among m q n
unfolding zero_among
zero_same = fold_same byte_at false (λ b found. pick (eqb b 0) true found) zero_among (λ l p. refl) (λ l p n. refl)

-- the bytes of a beginning
pub zero_taken : (l : List ℕ) (n : ℕ) → n ≤ length l → zero_among (take n l) 0 (length (take n l)) ≡ zero_among l 0 n
zero_taken l n h =
    let z : length (take n l) ≡ n = simp length-take (omega arith) in
    rw z (zero_same (take n l) l 0 0 n (λ i q. get_or-take n l (0 + i) 0 (omega arith)))

-- the bytes before others
zero_before : (l m : List ℕ) → zero_among (l ++ m) 0 (length l) ≡ zero_among l 0 (length l)
zero_before l m = zero_same (l ++ m) l 0 0 (length l) (λ i q. get_or-append l m 0 (0 + i) (omega arith))

-- a text has at least one byte
first_true : (n : ℕ) (b : Bool) → pick (leb 1 n) b false ≡ true → 1 ≤ n
first_true n b h = go (leb 1 n) refl h
  where
    go : (a : Bool) → leb 1 n ≡ a → pick a b false ≡ true → 1 ≤ n
    go true e w = leb-true 1 n e
    go false e w = no w

pub p_string_long : (l : List ℕ) → is_pstring l ≡ true → 1 ≤ length l
unfolding is_pstring
p_string_long l h = first_true (length l) _ h

pub c_string_long : (l : List ℕ) → is_cstring l ≡ true → 1 ≤ length l
unfolding is_cstring
c_string_long l h = first_true (length l) _ h

-- the number of one byte
pub be_byte : (l : List ℕ) (p : ℕ) → be 1 l p ≡ get_or l p 0
be_byte l p = byte_le l p ∙ le_byte l p

-- a first byte and the others
pub p_string_on : (l r : List ℕ) (x : ℕ) → l ≡ x ∷ r → eqb x (length r) ≡ is_pstring l
unfolding is_pstring
p_string_on l r x e =
    let n : suc (length r) - 1 ≡ length r = omega arith in
    rw (e, be_byte (x ∷ r) 0, n, le-leb 1 (suc (length r)) (omega arith))

-- the bytes before the last, and the last
pub c_string_on : (l r : List ℕ) (x : ℕ) → l ≡ r ++ (x ∷ []) → pick (eqb x 0) (not (zero_among r 0 (length r))) false ≡ is_cstring l
unfolding is_cstring
c_string_on l r x e =
    let n : length (r ++ (x ∷ [])) ≡ suc (length r) = simp length-append (omega arith) in
    let k : suc (length r) - 1 ≡ length r = omega arith in
    let z : length r + 0 ≡ length r = omega arith in
    let b : be 1 (r ++ (x ∷ [])) (length r) ≡ x = be_byte _ _ ∙ ap (λ (j : ℕ). get_or (r ++ (x ∷ [])) j 0) (sym z) ∙ get_or-append-add r (x ∷ []) 0 0 in
    rw (e, n, k, b, zero_before r (x ∷ []), le-leb 1 (suc (length r)) (omega arith))
