-- The bytes of an entry and of the header, from the writes of their fields.
use Prim.Native.Nat.{ℕ, ◌+◌, ◌-◌, ◌≤◌, ◌<◌}
use mathlib.Core.Path.{◌≡◌, refl}
use mathlib.Core.List.{List}
use native.Mathlib.Omega.{arith}
use lib.ListN.{length, take, drop, replicate}
use borrow.Author.Tests.{le-leb, lt-leb}
use Rattle.reading.specs.Number.{be}
use Rattle.writing.specs.Put.{digits, put}
use Rattle.writing.proofs.Over.{follow}
use Rattle.abif.specs.declared.entry.Entry.{Entry}
use Rattle.abif_write.specs.declared.item.Item.{Item}
use Rattle.abif_write.specs.Entry.{tag_bytes, data_bytes, entry_bytes, tdir, header_bytes, offset_field}

pub length_entry : (d : Entry) → length (entry_bytes d) ≡ 28
unfolding entry_bytes tag_bytes data_bytes digits
length_entry d = refl

pub length_header : (n p : ℕ) → length (header_bytes n p) ≡ 128
unfolding header_bytes entry_bytes tag_bytes data_bytes digits
length_header n p = refl

-- the writes of an entry's fields
module _ (d : Entry) (l l1 l2 l3 : List ℕ) {l4 : List ℕ} (p : ℕ) where
  pub tag_put : p + 12 ≤ length l → l1 ≡ put l p (digits 4 d.name) → l2 ≡ put l1 (p + 4) (digits 4 d.number) → l3 ≡ put l2 (p + 8) (digits 2 d.element_type) → l4 ≡ put l3 (p + 10) (digits 2 d.element_size) → l4 ≡ put l p (tag_bytes d)
  unfolding tag_bytes digits
  tag_put h e1 e2 e3 e4 =
      let f2 = follow l l1 p (p + 4) (digits 4 d.name) (digits 4 d.number) e1 e2 refl (omega arith) in
      let f3 = follow l l2 p (p + 8) _ (digits 2 d.element_type) f2 e3 refl (omega arith) in
      follow l l3 p (p + 10) _ (digits 2 d.element_size) f3 e4 refl (omega arith)

  pub data_put : p + 16 ≤ length l → l1 ≡ put l p (digits 4 d.element_count) → l2 ≡ put l1 (p + 4) (digits 4 d.data_size) → l3 ≡ put l2 (p + 8) (digits 4 d.data_offset) → l4 ≡ put l3 (p + 12) (replicate 4 0) → l4 ≡ put l p (data_bytes d)
  unfolding data_bytes digits
  data_put h e1 e2 e3 e4 =
      let f2 = follow l l1 p (p + 4) (digits 4 d.element_count) (digits 4 d.data_size) e1 e2 refl (omega arith) in
      let f3 = follow l l2 p (p + 8) _ (digits 4 d.data_offset) f2 e3 refl (omega arith) in
      follow l l3 p (p + 12) _ (digits 4 0) f3 e4 refl (omega arith)

pub entry_put : (d : Entry) (l l1 : List ℕ) {l2 : List ℕ} → d.place + 28 ≤ length l → l1 ≡ put l d.place (tag_bytes d) → l2 ≡ put l1 (d.place + 12) (data_bytes d) → l2 ≡ put l d.place (entry_bytes d)
unfolding entry_bytes tag_bytes data_bytes digits
entry_put d l l1 h e1 e2 = follow l l1 d.place (d.place + 12) (tag_bytes d) (data_bytes d) e1 e2 refl (omega arith)

pub header_put : (l l1 l2 l3 : List ℕ) {l4 : List ℕ} (n p : ℕ) → 128 ≤ length l → l1 ≡ put l 0 (digits 4 0x41424946) → l2 ≡ put l1 4 (digits 2 101) → l3 ≡ put l2 6 (entry_bytes (tdir n p)) → l4 ≡ put l3 34 (replicate 94 0) → l4 ≡ put l 0 (header_bytes n p)
unfolding header_bytes entry_bytes tag_bytes data_bytes digits
header_put l l1 l2 l3 n p h e1 e2 e3 e4 =
    let f2 = follow l l1 0 4 (digits 4 0x41424946) (digits 2 101) e1 e2 refl (omega arith) in
    let f3 = follow l l2 0 6 _ (entry_bytes (tdir n p)) f2 e3 refl (omega arith) in
    follow l l3 0 34 _ (replicate 94 0) f3 e4 refl (omega arith)

-- an entry's offset field
module _ (b : List ℕ) (d : Item) (x r : ℕ) where
  pub field_inline : d.size ≤ 4 → r ≡ be 4 (take (d.start + d.size - d.start) (drop d.start b)) 0 → r ≡ offset_field b d x
  field_inline h e =
      let k : d.start + d.size - d.start ≡ d.size = omega arith in
      rw (le-leb d.size 4 h) (rw k at e)

  pub field_apart : 4 < d.size → r ≡ x → r ≡ offset_field b d x
  field_apart h e = rw (lt-leb d.size 4 h) e
