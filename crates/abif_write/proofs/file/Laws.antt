-- The turns of the writing loops, and the file from its parts.
use Prim.Native.Nat.{ℕ, zero, suc, ◌+◌, ◌-◌, ◌*◌, ◌≤◌, ◌<◌}
use mathlib.Core.Path.{◌≡◌, refl, sym, ◌∙◌, subst}
use mathlib.Core.List.{List, [], ◌++◌, append_assoc}
use mathlib.Core.Bool.{Bool, true, false}
use native.Mathlib.Omega.{arith}
use lib.Dec.{leb}
use lib.ListN.{length, take, drop, length-take, length-drop, length-append}
use borrow.Author.Tests.{le-leb, lt-leb}
use Rattle.reading.specs.Choice.{pick}
use Rattle.reading.proofs.Loop.{Left, left_next, left_end}
use Rattle.writing.specs.Put.{put}
use Rattle.writing.proofs.Over.{put_nil, follow}
use Rattle.writing.proofs.Begun.{Begun, begun_start, begun_room, begun_next, begun_end, begun_put}
use Rattle.abif.specs.declared.entry.Entry.{Entry}
use Rattle.abif_write.specs.declared.item.Item.{Item}
use Rattle.abif_write.specs.Item.{bytes_of}
use Rattle.abif_write.specs.Private.{Sound}
use Rattle.abif_write.specs.Entry.{entry_bytes, header_bytes, entry_for}
use Rattle.abif_write.specs.File.{data_outside, size_outside, all_data, entries, total_outside, directory_place, file}
use Rattle.abif_write.proofs.entry.Laws.{length_entry, length_header}

pub length_outside : (b : List ℕ) (d : Item) → d.start + d.size ≤ length b → length (data_outside b d) ≡ size_outside d.size
length_outside b d h = go (leb d.size 4)
  where
    go : (t : Bool) → length (pick t [] (bytes_of b d)) ≡ pick t 0 d.size
    go true = refl
    go false = simp (length-take, length-drop) (omega arith)

pub length_entries : (g : ℕ → Item) (b : List ℕ) (p m i x : ℕ) → length (entries g b p m i x) ≡ 28 * m
unfolding entries
length_entries g b p zero i x = refl
length_entries g b p (suc m) i x =
    let e : length (entries g b p m (i + 1) (x + size_outside (g i).size)) ≡ 28 * m = length_entries g b p m (i + 1) (x + size_outside (g i).size) in
    rw (length-append, length_entry (entry_for b (g i) (p + 28 * i) x), e) (omega arith)

pub length_datas : (g : ℕ → Item) (b : List ℕ) (m i : ℕ) → ((k : ℕ) → k < i + m → Sound b (g k)) → length (all_data g b m i) ≡ total_outside g m i
unfolding all_data total_outside
length_datas g b zero i s = refl
length_datas g b (suc m) i s =
    rw (length-append, length_outside b (g i) (s i (omega arith)).present, length_datas g b m (i + 1) (λ k h. s k (omega arith)))

pub length_file : (g : ℕ → Item) (b : List ℕ) (n : ℕ) → ((k : ℕ) → k < n → Sound b (g k)) → length (file g b n) ≡ directory_place g n + 28 * n
unfolding file
length_file g b n s =
    let a : length (header_bytes n (directory_place g n)) ≡ 128 = length_header n (directory_place g n) in
    let c : length (all_data g b n 0) ≡ total_outside g n 0 = length_datas g b n 0 (λ k q. s k (omega arith)) in
    let d : length (entries g b (directory_place g n) n 0 128) ≡ 28 * n = length_entries g b (directory_place g n) n 0 128 in
    simp length-append (omega arith)

-- an item's data outside its entry
module _ (l : List ℕ) (p : ℕ) (b : List ℕ) (d : Item) where
  pub data_inline : d.size ≤ 4 → p ≤ length l → l ≡ put l p (data_outside b d)
  data_inline h k = rw (le-leb d.size 4 h) (put_nil l p k)

  pub data_apart : (m : List ℕ) → 4 < d.size → m ≡ put l p (take (d.start + d.size - d.start) (drop d.start b)) → m ≡ put l p (data_outside b d)
  data_apart m h e =
      let k : d.start + d.size - d.start ≡ d.size = omega arith in
      rw (lt-leb d.size 4 h, ← k) e

whole_fits : (o w : List ℕ) (p : ℕ) → p + length w ≤ length o → length (take p o ++ w) ≤ length o
whole_fits o w p h = simp (length-append, length-take) (omega arith)

-- a turn of the loop that writes the data
module _ (g : ℕ → Item) (b o l : List ℕ) (at n i : ℕ) (k : Begun o l at (λ m. all_data g b m i) n i (take 128 o ++ all_data g b n 0)) (h : i < n) (r : 128 + length (all_data g b n 0) ≤ length o) (d : Item) (e : d ≡ g i) (s : Sound b (g i)) (a : ℕ) (ea : a ≡ size_outside d.size) where
  turn : (m : ℕ) → all_data g b (suc m) i ≡ data_outside b d ++ all_data g b m (i + 1)
  unfolding all_data
  turn m = rw e

  long : length (data_outside b d) ≡ a
  long = length_outside b d (rw e s.present) ∙ sym ea

  pub datas_room : at + a ≤ length l
  datas_room = subst (λ (x : ℕ). at + x ≤ length l) long (begun_room o l at _ n i _ k (data_outside b d) _ turn h (whole_fits o (all_data g b n 0) 128 r))

  pub datas_next : (l' : List ℕ) → l' ≡ put l at (data_outside b d) → Begun o l' (at + a) (λ m. all_data g b m (i + 1)) n (i + 1) (take 128 o ++ all_data g b n 0)
  datas_next l' el = subst (λ (x : ℕ). Begun o l' (at + x) (λ m. all_data g b m (i + 1)) n (i + 1) (take 128 o ++ all_data g b n 0)) long (begun_next o l at _ n i _ k (data_outside b d) _ turn h (whole_fits o (all_data g b n 0) 128 r) l' el)

pub datas_end : (g : ℕ → Item) (b o l : List ℕ) (at n i : ℕ) → Begun o l at (λ m. all_data g b m i) n i (take 128 o ++ all_data g b n 0) → n ≤ i → 128 + length (all_data g b n 0) ≤ length o → l ≡ put o 128 (all_data g b n 0)
unfolding all_data
datas_end g b o l at n i k h r = (begun_put o l at 128 (all_data g b n 0) (begun_end o l at _ n i _ k h refl) r).0

-- the items up to item i take x bytes with the header, and all of them t
abbrev pub Taken : (ℕ → Item) → ℕ → ℕ → ℕ → Type 0
Taken g n i x = Left (λ m. x + total_outside g m i) n i (directory_place g n)

module _ (g : ℕ → Item) (n i x : ℕ) (l : Taken g n i x) where
  pub taken_next : (a : ℕ) → a ≡ size_outside (g i).size → Taken g n (i + 1) (x + a)
  unfolding total_outside
  taken_next a e = left_next _ _ _ _ l (λ m. (x + a) + total_outside g m (i + 1)) (λ m. rw e (omega arith))

  pub taken_end : i ≤ n → n ≤ i → x ≡ directory_place g n
  unfolding total_outside
  taken_end h k =
      let q : x + 0 ≡ directory_place g n = left_end _ _ _ _ l h k in
      omega arith

  pub taken_within : i ≤ n → x ≤ directory_place g n
  taken_within h =
      let q : x + total_outside g (n - i) i ≡ directory_place g n = l (n - i) (omega arith) in
      omega arith

-- nothing of the directory is written yet
pub begun_first : (o : List ℕ) (p : ℕ) (W : ℕ → List ℕ) (n : ℕ) → p ≤ length o → Begun o o (p + 28 * 0) W n 0 (take p o ++ W n)
begun_first o p W n h =
    let q : p ≡ p + 28 * 0 = omega arith in
    subst (λ (y : ℕ). Begun o o y W n 0 (take p o ++ W n)) q (begun_start o p W n h)

-- a turn of the loop that writes the directory
module _ (g : ℕ → Item) (b o l : List ℕ) (x n i p : ℕ) (k : Begun o l (p + 28 * i) (λ m. entries g b p m i x) n i (take p o ++ entries g b p n 0 128)) (h : i < n) (r : p + 28 * n ≤ length o) (e : Entry) (ee : e ≡ entry_for b (g i) (p + 28 * i) x) (a : ℕ) (ea : a ≡ size_outside (g i).size) where
  step : (m : ℕ) → entries g b p (suc m) i x ≡ entry_bytes e ++ entries g b p m (i + 1) (x + a)
  unfolding entries
  step m = rw (ee, ea)

  fits : length (take p o ++ entries g b p n 0 128) ≤ length o
  fits = whole_fits o (entries g b p n 0 128) p (rw (length_entries g b p n 0 128) r)

  entries_after : (l' : List ℕ) → l' ≡ put l (p + 28 * i) (entry_bytes e) → Begun o l' (p + 28 * i + 28) (λ m. entries g b p m (i + 1) (x + a)) n (i + 1) (take p o ++ entries g b p n 0 128)
  entries_after l' el = subst (λ (y : ℕ). Begun o l' (p + 28 * i + y) (λ m. entries g b p m (i + 1) (x + a)) n (i + 1) (take p o ++ entries g b p n 0 128)) (length_entry e) (begun_next o l (p + 28 * i) _ n i _ k (entry_bytes e) _ step h fits l' el)

  pub entries_next : (l' : List ℕ) → l' ≡ put l (p + 28 * i) (entry_bytes e) → Begun o l' (p + 28 * (i + 1)) (λ m. entries g b p m (i + 1) (x + a)) n (i + 1) (take p o ++ entries g b p n 0 128)
  entries_next l' el =
      let q : p + 28 * i + 28 ≡ p + 28 * (i + 1) = omega arith in
      subst (λ (y : ℕ). Begun o l' y (λ m. entries g b p m (i + 1) (x + a)) n (i + 1) (take p o ++ entries g b p n 0 128)) q (entries_after l' el)

pub entries_end : (g : ℕ → Item) (b o l : List ℕ) (x n i p : ℕ) → Begun o l (p + 28 * i) (λ m. entries g b p m i x) n i (take p o ++ entries g b p n 0 128) → n ≤ i → p + 28 * n ≤ length o → l ≡ put o p (entries g b p n 0 128)
unfolding entries
entries_end g b o l x n i p k h r = (begun_put o l (p + 28 * i) p (entries g b p n 0 128) (begun_end o l (p + 28 * i) _ n i _ k h refl) (rw (length_entries g b p n 0 128) r)).0

-- what is known of the item at hand
module _ (g : ℕ → Item) (b : List ℕ) (i : ℕ) (d : Item) (q : d ≡ g i) where
  pub item_present : Sound b (g i) → (d.start + d.size ≤ length b) × (d.size < 0x80000000)
  item_present s = rw q (s.present, s.size_fits)

  pub item_apart : (a : ℕ) → a ≡ size_outside d.size → a ≡ size_outside (g i).size
  item_apart a e = rw (← q) e

  pub item_below : Sound b (g i) → (a : ℕ) → a ≡ size_outside d.size → a < 0x80000000
  item_below s a e = rw e (go (leb d.size 4))
    where
      small : d.size < 0x80000000
      small = (item_present s).1

      go : (t : Bool) → pick t 0 d.size < 0x80000000
      go true = omega arith
      go false = small

  pub item_entry : (p x : ℕ) (e : Entry) → e ≡ entry_for b d p x → e ≡ entry_for b (g i) p x
  item_entry p x e f = rw (← q) f

-- the place of an entry
pub entry_placed : (b : List ℕ) (d : Item) (p x : ℕ) (e : Entry) → e ≡ entry_for b d p x → e.place ≡ p
unfolding entry_for
entry_placed b d p x e q = rw q

-- the data fit where the file does
pub datas_fit : (g : ℕ → Item) (b : List ℕ) (n p room : ℕ) → ((k : ℕ) → k < n → Sound b (g k)) → p ≡ directory_place g n → p + 28 * n ≤ room → 128 + length (all_data g b n 0) ≤ room
datas_fit g b n p room s e h =
    let c : length (all_data g b n 0) ≡ total_outside g n 0 = length_datas g b n 0 (λ k q. s k (omega arith)) in
    omega arith

-- the whole file in three writes
pub file_put : (g : ℕ → Item) (b o l1 l2 : List ℕ) {l3 : List ℕ} (n p : ℕ) → ((k : ℕ) → k < n → Sound b (g k)) → p ≡ directory_place g n → p + 28 * n ≤ length o → l1 ≡ put o 0 (header_bytes n p) → l2 ≡ put l1 128 (all_data g b n 0) → l3 ≡ put l2 p (entries g b p n 0 128) → l3 ≡ put o 0 (file g b n)
unfolding file
file_put g b o l1 l2 {l3} n p s ep h e1 e2 e3 =
    let a : length (header_bytes n p) ≡ 128 = length_header n p in
    let c : length (all_data g b n 0) ≡ total_outside g n 0 = length_datas g b n 0 (λ k q. s k (omega arith)) in
    let d : length (entries g b p n 0 128) ≡ 28 * n = length_entries g b p n 0 128 in
    let f = follow o l1 0 128 (header_bytes n p) (all_data g b n 0) e1 e2 (omega arith) (omega arith) in
    let t : length (header_bytes n p ++ all_data g b n 0) ≡ p = simp length-append (omega arith) in
    let q : l3 ≡ put o 0 ((header_bytes n p ++ all_data g b n 0) ++ entries g b p n 0 128) = follow o l2 0 p (header_bytes n p ++ all_data g b n 0) (entries g b p n 0 128) f e3 (omega arith) (omega arith) in
    q ∙ rw (append_assoc, ep)
