-- Laws of `put`: what is written stands there, and two writes side by side are one.
use Prim.Native.Nat.{ℕ, zero, suc, ◌+◌, ◌/◌, ◌%◌, ◌^◌, ◌≤◌, ◌<◌}
use borrow.Rule.Slice.PartMut.{put_mid}
use Rattle.std.specs.Int.{bytes_high_first}
use mathlib.Core.Path.{◌≡◌, refl, sym, ◌∙◌, ap}
use mathlib.Core.List.{List, [], ◌∷◌, ◌++◌, append_assoc}
use native.Mathlib.Omega.{arith}
use native.Mathlib.Numerals.{add-one}
use lib.ListN.{take-append-drop, length, set, get_or, take, drop, length-append, length-take, length-drop, replicate, length-replicate, get_or-replicate}
use lib.Seq.{paste, paste-suc, take-length, sets, sets-eq, take_at, drop_at, drop-drop}
use borrow.Author.Tests.{le-leb, lt-leb}
use Rattle.writing.specs.Put.{digits, put}

pub length_digits : (w n : ℕ) → length (digits w n) ≡ w
unfolding digits
length_digits zero n = refl
length_digits (suc w) n = ap suc (length_digits w n)

module _ (l : List ℕ) (p : ℕ) (v : List ℕ) where
  -- where there is room
  pub put_room : p + length v ≤ length l → put l p v ≡ take p l ++ (v ++ drop (p + length v) l)
  unfolding put
  put_room h = rw (le-leb (p + length v) (length l) h)

  -- where there is none
  pub put_none : length l < p + length v → l ≡ put l p v
  unfolding put
  put_none h = rw (lt-leb (p + length v) (length l) h)

  -- a run of stores is a write
  pub sets_put : p + length v ≤ length l → sets l p v ≡ put l p v
  sets_put h = sets-eq v l p h ∙ append_assoc (take p l) v (drop (p + length v) l) ∙ sym (put_room h)

  pub length_put : p + length v ≤ length l → length (put l p v) ≡ length l
  length_put h = rw (put_room h) (simp (length-append, length-take, length-drop) (omega arith))

  pub take_put : p + length v ≤ length l → take (p + length v) (put l p v) ≡ take p l ++ v
  take_put h =
      let e : length (take p l ++ v) ≡ p + length v = simp (length-append, length-take) (omega arith) in
      rw (put_room h, ← append_assoc) (take_at (take p l ++ v) (drop (p + length v) l) (p + length v) e)

  pub drop_put : p + length v ≤ length l → drop (p + length v) (put l p v) ≡ drop (p + length v) l
  drop_put h =
      let e : length (take p l ++ v) ≡ p + length v = simp (length-append, length-take) (omega arith) in
      rw (put_room h, ← append_assoc) (drop_at (take p l ++ v) (drop (p + length v) l) (p + length v) e)

-- two writes side by side are one
pub put_put : (l : List ℕ) (p : ℕ) (v u : List ℕ) → p + length v + length u ≤ length l → put (put l p v) (p + length v) u ≡ put l p (v ++ u)
put_put l p v u h =
    let a : p + length v ≤ length l = omega arith in
    let b : p + length (v ++ u) ≤ length l = simp length-append (omega arith) in
    let c : p + length v + length u ≤ length (put l p v) = rw (length_put l p v a) h in
    let e : p + length v + length u ≡ p + length (v ++ u) = simp length-append (omega arith) in
    let d : drop (p + length v + length u) (put l p v) ≡ drop (p + length (v ++ u)) l =
    sym (drop-drop (length u) (p + length v) (put l p v)) ∙ ap (drop (length u)) (drop_put l p v a) ∙ drop-drop (length u) (p + length v) l
    ∙ ap (λ (k : ℕ). drop k l) e in
    put_room (put l p v) (p + length v) u c ∙ rw (take_put l p v a, d, put_room l p (v ++ u) b) (simp append_assoc)

-- the stores of a number's bytes
pub put1 : (l : List ℕ) (p n : ℕ) → p < length l → n < 256 → set l p n ≡ put l p (digits 1 n)
unfolding digits
put1 l p n h k =
    let e : n / 1 % 256 ≡ n = omega arith in
    let q : p + 1 ≤ length l = omega arith in
    ap (set l p) (sym e) ∙ sets_put l p (digits 1 n) q

pub put2 : (l : List ℕ) (p n a b : ℕ) → p + 2 ≤ length l → a ≡ n / 256 % 256 → b ≡ n % 256 → set (set l p a) (p + 1) b ≡ put l p (digits 2 n)
unfolding digits
put2 l p n a b h qa qb =
    let k : b ≡ n / 1 % 256 = omega arith in
    rw (add-one, qa, k) (sets_put l p (digits 2 n) h)

pub put4 : (l : List ℕ) (p n a b c d : ℕ) → p + 4 ≤ length l → a ≡ n / 16777216 % 256 → b ≡ n / 65536 % 256 → c ≡ n / 256 % 256 → d ≡ n % 256 → set (set (set (set l p a) (p + 1) b) (p + 2) c) (p + 3) d ≡ put l p (digits 4 n)
unfolding digits
put4 l p n a b c d h qa qb qc qd =
    let k : d ≡ n / 1 % 256 = omega arith in
    let e1 : p + 1 ≡ suc p = omega arith in
    let e2 : p + 2 ≡ suc (suc p) = omega arith in
    let e3 : p + 3 ≡ suc (suc (suc p)) = omega arith in
    rw (e1, e2, e3, qa, qb, qc, k) (sets_put l p (digits 4 n) h)

-- a list copied byte by byte: one byte more, and all
module _ (d : List ℕ) (p : ℕ) (s : List ℕ) where
  pub copy_next : (l : List ℕ) (j : ℕ) → l ≡ paste d p s j → p + j < length d → j < length s → set l (p + j) (get_or s j 0) ≡ paste d p s (j + 1)
  copy_next l j e h k = rw (e, add-one) (paste-suc d p s j 0 h k)

  pub copy_end : (l : List ℕ) (j : ℕ) → l ≡ paste d p s j → j ≤ length s → length s ≤ j → p + length s ≤ length d → l ≡ put d p s
  copy_end l j e h k m =
      let q : j ≡ length s = omega arith in
      e ∙ rw (q, put_room d p s m, take-length, append_assoc)

-- the k bytes from place p on, with v put in their place
pub part_put : (l : List ℕ) (p k : ℕ) (v w : List ℕ) → w ≡ v → k ≡ length v → p + length v ≤ length l → put_mid p k l w ≡ put l p v
part_put l p k v w e f h = simp (e, f, put_room l p v h, drop-drop) (ap (λ (n : ℕ). take p l ++ (v ++ drop n l)) (omega arith))

-- the library's bytes of a number
pub bytes_high_first_digits : (w n : ℕ) → bytes_high_first w n ≡ digits w n
unfolding digits
bytes_high_first_digits zero n = refl
bytes_high_first_digits (suc zero) n = ap (λ (k : ℕ). k % 256 ∷ []) (omega arith)
bytes_high_first_digits (suc (suc w)) n = ap (λ (l : List ℕ). n / 256 ^ suc w % 256 ∷ l) (bytes_high_first_digits (suc w) n)

-- they are written
pub put_digits : (w n p : ℕ) (b l : List ℕ) {m : List ℕ} → b ≡ bytes_high_first w n → m ≡ put l p b → m ≡ put l p (digits w n)
put_digits w n p b l f e = e ∙ ap (put l p) (f ∙ bytes_high_first_digits w n)

-- a write, and one more just behind it
pub follow : (l m : List ℕ) {k : List ℕ} (p q : ℕ) (v u : List ℕ) → m ≡ put l p v → k ≡ put m q u → q ≡ p + length v → p + length v + length u ≤ length l → k ≡ put l p (v ++ u)
follow l m p q v u e f g h = f ∙ rw (e, g) (put_put l p v u h)

-- zeros written one by one: one more, and all
module _ (d : List ℕ) (p n : ℕ) where
  pub zeros_next : (l : List ℕ) (j : ℕ) → l ≡ paste d p (replicate n 0) j → p + j < length d → j < n → set l (p + j) 0 ≡ paste d p (replicate n 0) (j + 1)
  zeros_next l j e h k =
      let q : length {A = ℕ} (replicate n 0) ≡ n = length-replicate n 0 in
      ap (λ (x : ℕ). set l (p + j) x) (sym (get_or-replicate {A = ℕ} n j 0 0 k)) ∙ (copy_next d p (replicate n 0) l j e h (omega arith))

  pub zeros_end : (l : List ℕ) (j : ℕ) → l ≡ paste d p (replicate n 0) j → j ≤ n → n ≤ j → p + n ≤ length d → l ≡ put d p (replicate n 0)
  zeros_end l j e h k m =
      let q : length {A = ℕ} (replicate n 0) ≡ n = length-replicate n 0 in
      copy_end d p (replicate n 0) l j e (omega arith) (omega arith) (omega arith)

-- nothing written changes nothing
pub put_nil : (l : List ℕ) (p : ℕ) → p ≤ length l → l ≡ put l p []
put_nil l p h =
    let k : p + 0 ≡ p = omega arith in
    sym (put_room l p [] (rw k h) ∙ rw k (take-append-drop p l))
