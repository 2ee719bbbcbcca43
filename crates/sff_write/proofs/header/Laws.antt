-- The header, from the writes of its pieces.
use Prim.Native.Nat.{ℕ, ◌+◌, ◌≤◌}
use mathlib.Core.Path.{◌≡◌, refl}
use mathlib.Core.List.{List, ◌++◌}
use native.Mathlib.Omega.{arith}
use lib.ListN.{length, replicate, length-append, length-replicate}
use Rattle.sff_fields.specs.Padding.{padding, padded}
use Rattle.writing.specs.Put.{digits, put}
use Rattle.writing.proofs.Over.{follow}
use Rattle.writing.proofs.Pieces.{three}
use Rattle.sff_write.specs.Header.{front_bytes, length_bytes, header_size, header_bytes}

pub front_put : (l l1 l2 l3 : List ℕ) {l4 : List ℕ} (reads : ℕ) → 31 ≤ length l → l1 ≡ put l 0 (digits 4 0x2e736666) → l2 ≡ put l1 4 (digits 4 1) → l3 ≡ put l2 8 (replicate 12 0) → l4 ≡ put l3 20 (digits 4 reads) → l4 ≡ put l 0 (front_bytes reads)
unfolding front_bytes digits
front_put l l1 l2 l3 reads h e1 e2 e3 e4 =
    let f2 = follow l l1 0 4 (digits 4 0x2e736666) (digits 4 1) e1 e2 refl (omega arith) in
    let f3 = follow l l2 0 8 _ (replicate 12 0) f2 e3 refl (omega arith) in
    follow l l3 0 20 _ (digits 4 reads) f3 e4 refl (omega arith)

pub lengths_put : (l l1 l2 l3 : List ℕ) {l4 : List ℕ} (size key flows : ℕ) → 31 ≤ length l → l1 ≡ put l 24 (digits 2 size) → l2 ≡ put l1 26 (digits 2 key) → l3 ≡ put l2 28 (digits 2 flows) → l4 ≡ put l3 30 (digits 1 1) → l4 ≡ put l 24 (length_bytes size key flows)
unfolding length_bytes digits
lengths_put l l1 l2 l3 size key flows h e1 e2 e3 e4 =
    let f2 = follow l l1 24 26 (digits 2 size) (digits 2 key) e1 e2 refl (omega arith) in
    let f3 = follow l l2 24 28 _ (digits 2 flows) f2 e3 refl (omega arith) in
    follow l l3 24 30 _ (digits 1 1) f3 e4 refl (omega arith)

pub letters_put : (l l1 l2 : List ℕ) {l3 : List ℕ} (letters key : List ℕ) (z : ℕ) → 31 + length letters + length key + z ≤ length l → l1 ≡ put l 31 letters → l2 ≡ put l1 (31 + length letters) key → l3 ≡ put l2 (31 + length letters + length key) (replicate z 0) → l3 ≡ put l 31 (letters ++ (key ++ replicate z 0))
letters_put l l1 l2 letters key z h e1 e2 e3 =
    let k : length {A = ℕ} (replicate z 0) ≡ z = length-replicate z 0 in
    three l l1 l2 31 letters key (replicate z 0) e1 e2 e3 (omega arith)

-- a header is as long as it says
pub length_header : (reads : ℕ) (letters key : List ℕ) → length (header_bytes reads letters key) ≡ header_size letters key
unfolding header_bytes front_bytes length_bytes digits padded
length_header reads letters key = simp (length-append, length-replicate) (omega arith)

pub header_put : (l l1 l2 : List ℕ) {l3 : List ℕ} (reads : ℕ) (letters key : List ℕ) (z s : ℕ) → z ≡ padding (31 + length letters + length key) → s ≡ header_size letters key → header_size letters key ≤ length l
    → l1 ≡ put l 0 (front_bytes reads) → l2 ≡ put l1 24 (length_bytes s (length key) (length letters)) → l3 ≡ put l2 31 (letters ++ (key ++ replicate z 0)) → l3 ≡ put l 0 (header_bytes reads letters key)
unfolding header_bytes front_bytes length_bytes digits
header_put l l1 l2 reads letters key z s ez es h e1 e2 e3 =
    let k : length (header_bytes reads letters key) ≡ header_size letters key = length_header reads letters key in
    three l l1 l2 0 (front_bytes reads) (length_bytes (header_size letters key) (length key) (length letters)) (letters ++ (key ++ replicate (padding (31 + length letters + length key)) 0)) e1 (rw es at e2) (rw ez at e3) (omega arith)
