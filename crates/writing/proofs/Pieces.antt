-- Three and four pieces, written one behind the other.
use Prim.Native.Nat.{◌+◌, ◌≤◌, ℕ}
use mathlib.Core.Path.{◌≡◌, refl, ◌∙◌}
use mathlib.Core.List.{List, ◌++◌, append_assoc}
use native.Mathlib.Omega.{arith}
use lib.ListN.{length, length-append}
use Rattle.writing.specs.Put.{put}
use Rattle.writing.proofs.Over.{follow}

module _ (l l1 l2 : List ℕ) (p : ℕ) (u v w : List ℕ) (e1 : l1 ≡ put l p u) (e2 : l2 ≡ put l1 (p + length u) v) where
  pub three : {l3 : List ℕ} → l3 ≡ put l2 (p + length u + length v) w → p + length u + length v + length w ≤ length l → l3 ≡ put l p (u ++ (v ++ w))
  three e3 h =
      let f2 = follow l l1 p (p + length u) u v e1 e2 refl (omega arith) in
      let q : p + length u + length v ≡ p + length (u ++ v) = simp length-append (omega arith) in
      follow l l2 p (p + length u + length v) (u ++ v) w f2 e3 q (simp length-append (omega arith)) ∙ rw append_assoc

pub four : (l l1 l2 l3 : List ℕ) {l4 : List ℕ} (p : ℕ) (u v w x : List ℕ) → l1 ≡ put l p u → l2 ≡ put l1 (p + length u) v → l3 ≡ put l2 (p + length u + length v) w → l4 ≡ put l3 (p + length u + length v + length w) x
    → p + length u + length v + length w + length x ≤ length l → l4 ≡ put l p (u ++ (v ++ (w ++ x)))
four l l1 l2 l3 p u v w x e1 e2 e3 e4 h =
    let f3 = three l l1 l2 p u v w e1 e2 e3 (omega arith) in
    let q : p + length u + length v + length w ≡ p + length (u ++ (v ++ w)) = simp length-append (omega arith) in
    follow l l3 p (p + length u + length v + length w) (u ++ (v ++ w)) x f3 e4 q (simp length-append (omega arith)) ∙ simp append_assoc
