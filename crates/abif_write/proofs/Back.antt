-- Reading back what is written: the fields of an entry, the entries of a directory, and the data.
use Prim.Native.Nat.{ℕ, zero, suc, ◌+◌, ◌*◌, ◌<◌}
use mathlib.Core.Path.{◌≡◌, refl, sym, ◌∙◌, ap}
use mathlib.Core.List.{List, [], ◌++◌, append_assoc}
use native.Mathlib.Omega.{arith}
use lib.ListN.{length, drop, length-append}
use lib.Seq.{drop-append-add}
use borrow.Author.Tests.{lt-leb}
use Rattle.reading.specs.Number.{be}
use Rattle.writing.specs.Put.{digits}
use Rattle.writing.proofs.Digits.{be_field}
use Rattle.abif.specs.declared.entry.Entry.{Entry}
use Rattle.abif.specs.Entry.{entry_of}
use Rattle.abif_write.specs.declared.item.Item.{Item}
use Rattle.abif_write.specs.Item.{bytes_of}
use Rattle.abif_write.specs.Private.{Sound}
use Rattle.abif_write.specs.Entry.{tag_bytes, data_bytes, entry_bytes, entry_for}
use Rattle.abif_write.specs.File.{data_outside, size_outside, all_data, entries, total_outside}
use Rattle.abif_write.proofs.entry.Laws.{length_entry}
use Rattle.abif_write.proofs.file.Laws.{length_outside}

-- an entry whose numbers fit their fields
pub record Fits (d : Entry) : Type 0 where
  pub name_fits : d.name < 0x100000000
  pub number_fits : d.number < 0x100000000
  pub type_fits : d.element_type < 0x10000
  pub width_fits : d.element_size < 0x10000
  pub count_fits : d.element_count < 0x100000000
  pub size_fits : d.data_size < 0x100000000
  pub offset_fits : d.data_offset < 0x100000000

-- an entry is read back at its place
pub entry_back : (u r : List ℕ) (d : Entry) → d.place ≡ length u → Fits d → entry_of (u ++ (entry_bytes d ++ r)) (length u) ≡ d
unfolding entry_of entry_bytes tag_bytes data_bytes digits
entry_back u r d pl f =
    let s = entry_bytes d ++ r in
    let n1 = digits 4 d.name in
    let n2 = n1 ++ digits 4 d.number in
    let n3 = n2 ++ digits 2 d.element_type in
    let n4 = n3 ++ digits 2 d.element_size in
    let n5 = n4 ++ digits 4 d.element_count in
    let n6 = n5 ++ digits 4 d.data_size in
    let r7 = digits 4 0 ++ r in
    let r6 = digits 4 d.data_offset ++ r7 in
    let r5 = digits 4 d.data_size ++ r6 in
    let r4 = digits 4 d.element_count ++ r5 in
    let r3 = digits 2 d.element_size ++ r4 in
    let r2 = digits 2 d.element_type ++ r3 in
    let r1 = digits 4 d.number ++ r2 in
    let z : length u + 0 ≡ length u = omega arith in
    let a = ap (λ (p : ℕ). be 4 (u ++ s) p) (sym z) ∙ be_field 4 d.name 0 u [] r1 s refl refl f.name_fits in
    let b = be_field 4 d.number 4 u n1 r2 s refl refl f.number_fits in
    let c = be_field 2 d.element_type 8 u n2 r3 s refl refl f.type_fits in
    let e = be_field 2 d.element_size 10 u n3 r4 s refl refl f.width_fits in
    let g = be_field 4 d.element_count 12 u n4 r5 s refl refl f.count_fits in
    let h = be_field 4 d.data_size 16 u n5 r6 s refl refl f.size_fits in
    let k = be_field 4 d.data_offset 20 u n6 r7 s refl refl f.offset_fits in
    let l = sym pl in
    λ i. record { place = l i; name = a i; number = b i; element_type = c i; element_size = e i; element_count = g i; data_size = h i; data_offset = k i }

-- the bytes of its offset field
pub inline_back : (u r : List ℕ) (d : Entry) → drop (length u + 20) (u ++ (entry_bytes d ++ r)) ≡ digits 4 d.data_offset ++ (digits 4 0 ++ r)
unfolding entry_bytes tag_bytes data_bytes digits
inline_back u r d = drop-append-add u (entry_bytes d ++ r) 20

-- the entry of item j, number k of a directory, with what stands before and behind it
pub entries_split : (g : ℕ → Item) (b : List ℕ) (p j k m i x : ℕ) → j ≡ i + k → k < m → (u : List ℕ) × (r : List ℕ) × (entries g b p m i x ≡ u ++ (entry_bytes (entry_for b (g j) (p + 28 * j) (x + total_outside g k i)) ++ r)) × (length u ≡ 28 * k)
unfolding entries total_outside
entries_split g b p j k zero i x e h = absurd (omega arith)
entries_split g b p j zero (suc m) i x e h =
    let y : i ≡ j = omega arith in
    let w : x + 0 ≡ x = omega arith in
    ([], entries g b p m (i + 1) (x + size_outside (g i).size), rw (y, w), refl)
entries_split g b p j (suc k) (suc m) i x e h =
    let v = entries_split g b p j k m (i + 1) (x + size_outside (g i).size) (omega arith) (omega arith) in
    let w : x + (size_outside (g i).size + total_outside g k (i + 1)) ≡ x + size_outside (g i).size + total_outside g k (i + 1) = omega arith in
    (entry_bytes (entry_for b (g i) (p + 28 * i) x) ++ v.0, v.1, rw (w, v.2) (simp append_assoc), rw (length-append, length_entry (entry_for b (g i) (p + 28 * i) x), v.3) (omega arith))

-- the data of item j, number k of them, with what stands before and behind them
pub datas_split : (g : ℕ → Item) (b : List ℕ) (j k m i : ℕ) → j ≡ i + k → ((q : ℕ) → q < i + m → Sound b (g q)) → k < m → 4 < (g j).size → (u : List ℕ) × (r : List ℕ) × (all_data g b m i ≡ u ++ (bytes_of b (g j) ++ r)) × (length u ≡ total_outside g k i)
unfolding all_data total_outside
datas_split g b j k zero i e s h l = absurd (omega arith)
datas_split g b j zero (suc m) i e s h l =
    let y : i ≡ j = omega arith in
    ([], all_data g b m (i + 1), rw (y, lt-leb (g j).size 4 l), refl)
datas_split g b j (suc k) (suc m) i e s h l =
    let v = datas_split g b j k m (i + 1) (omega arith) (λ q w. s q (omega arith)) (omega arith) l in
    (data_outside b (g i) ++ v.0, v.1, rw v.2 (simp append_assoc), rw (length-append, length_outside b (g i) (s i (omega arith)).present, v.3))
