-- The round trip: a written file is judged whole, each item is found as it was given, and nothing else is found.
use Prim.Native.Nat.{ℕ, zero, suc, ◌+◌, ◌-◌, ◌*◌, ◌^◌, ◌≤◌, ◌<◌}
use mathlib.Core.Path.{◌≡◌, refl, sym, ◌∙◌, ap, subst}
use mathlib.Core.List.{List, ◌++◌, append_assoc}
use mathlib.Core.Bool.{Bool, true, false}
use native.Mathlib.Omega.{arith}
use lib.Dec.{leb, eqb}
use lib.IntN.{ℤ, pos, negsuc}
use lib.Signed.{mag}
use lib.ListN.{length, take, drop, get_or, length-append, length-take, length-drop, replicate, get_or-eq_default}
use lib.Seq.{take_at, drop_at, take_all, get_or-take, get_or-drop}
use borrow.Author.Rules.{rules}
use borrow.Author.Tests.{le-leb, lt-leb, eq-eqb, leb-true, leb-false}
use Rattle.reading.specs.Choice.{pick}
use Rattle.reading.specs.Number.{be, bits}
use Rattle.reading.specs.Part.{bytes_at}
use Rattle.reading.specs.Item.{data_span}
use Rattle.reading.specs.Check.{ok, refused, answer, holds}
use Rattle.reading.specs.Entries.{first_with}
use Rattle.reading.proofs.Entries.{first_none, first_is}
use Rattle.reading.proofs.Signs.{half}
use Rattle.reading.proofs.Steps.{answer_bind, answer_must}
use Rattle.reading.proofs.Tests.{no}
use Rattle.writing.specs.Put.{digits}
use Rattle.writing.proofs.Digits.{digits_be, be_below}
use Rattle.abif.specs.declared.entry.Entry.{Entry}
use Rattle.abif.specs.declared.entry.ElementType.{ElementType}
use Rattle.abif.specs.declared.entry.ElementType.TheVariants.{Listed, Raw, Unknown}
use Rattle.reading.specs.declared.item.ItemData.{ItemData}
use Rattle.abif.specs.Entry.{entry_of, has_tag, type_of, sizes_check, entry_check}
use Rattle.abif.specs.Directory.{Directory, directory_end, header_check, bounds_check, directory, opening}
use Rattle.abif.specs.Judge.{judge_entry, judging}
use Rattle.abif.specs.Lookup.{data_of, looking_up}
use Rattle.abif.proofs.Passing.{directory_passes, opening_passes, listed_passes, raw_passes, data_end, entry_passes, differ, judged_new, judging_passes, lookup_finds, lookup_misses}
use Rattle.abif_write.specs.declared.item.Item.{Item}
use Rattle.abif_write.specs.Item.{bytes_of, is_taken, written_size, ordered}
use Rattle.abif_write.specs.Private.{Sound}
use Rattle.abif_write.specs.Entry.{tag_bytes, data_bytes, entry_bytes, tdir, header_bytes, entry_for}
use Rattle.abif_write.specs.File.{size_outside, all_data, entries, total_outside, directory_place, file}
use Rattle.abif_write.proofs.entry.Laws.{length_header}
use Rattle.abif_write.proofs.file.Laws.{length_datas, length_file}
use Rattle.abif_write.proofs.Order.{two_tags}
use Rattle.abif_write.proofs.Back.{Fits, entry_back, inline_back, entries_split, datas_split}

-- what is lent fits its types
pub record Lent (g : ℕ → Item) (b : List ℕ) : Type 0 where
  pub names : (k : ℕ) → (g k).name < 0x100000000
  pub numbers : (k : ℕ) → mag (g k).number < 0x80000000
  pub types : (k : ℕ) → (g k).element_type < 0x10000
  pub bytes : (i : ℕ) → get_or b i 0 < 256

-- the bits of a signed number of w bytes fit them
pub bits_fit : (w : ℕ) (z : ℤ) → 0 < w → mag z < 2 ^ (8 * w - 1) → bits w z < 2 ^ (8 * w)
unfolding bits
bits_fit w (pos n) p h = omega (arith, half w p)
bits_fit w (negsuc n) p h = omega (arith, half w p)

-- an element size fits its field, and that of a user type is 1
either_small : (t : Bool) (x y : ElementType) → written_size x < 0x8000 → written_size y < 0x8000 → written_size (pick t x y) < 0x8000
either_small true x y a b = a
either_small false x y a b = b

size_small : (k : ℕ) → written_size (type_of k) < 0x8000
unfolding type_of written_size
size_small k = search (rules, either_small) depth 24 fits 3000

-- a part of bytes is bytes
part_bytes : (b : List ℕ) (d : Item) → ((i : ℕ) → get_or b i 0 < 256) → (i : ℕ) → get_or (bytes_of b d) i 0 < 256
part_bytes b d h i = go (leb (suc i) d.size) refl
  where
    go : (t : Bool) → leb (suc i) d.size ≡ t → get_or (bytes_of b d) i 0 < 256
    go true q = rw (get_or-take d.size (drop d.start b) i 0 (leb-true (suc i) d.size q), get_or-drop d.start b i 0) (h (d.start + i))
    go false q =
        let l : d.size < suc i = leb-false (suc i) d.size q in
        let z : length (bytes_of b d) ≤ i = simp length-take (omega arith) in
        rw (get_or-eq_default (bytes_of b d) 0 z) (omega arith)

-- the sizes of an item's entry pass
sizes_pass : (s : List ℕ) (e : Entry) (k : ElementType) (c : ℕ) → e.element_size < 0x8000 → e.element_count < 0x80000000 → e.data_size < 0x80000000 → is_taken k c ≡ true → e.element_size ≡ written_size k → e.data_size ≡ written_size k * e.element_count → answer (sizes_check k e) s ≡ ok tt
unfolding sizes_check written_size
sizes_pass s e (Listed w) c narrow few small t a b = listed_passes s e narrow few small w a b
sizes_pass s e Raw c narrow few small t a b = raw_passes s e narrow few small
sizes_pass s e Unknown c narrow few small t a b = no t

-- the entry, at place p, of item d with data at place x
module _ (b : List ℕ) (d : Item) (p x : ℕ) where
  entry_name : (entry_for b d p x).name ≡ d.name
  unfolding entry_for
  entry_name = refl

  entry_number : (entry_for b d p x).number ≡ bits 4 d.number
  unfolding entry_for
  entry_number = refl

  entry_place : (entry_for b d p x).place ≡ p
  unfolding entry_for
  entry_place = refl

  entry_size_lem : (entry_for b d p x).data_size ≡ d.size
  unfolding entry_for
  entry_size_lem = refl

  entry_apart : 4 < d.size → (entry_for b d p x).data_offset ≡ x
  unfolding entry_for
  entry_apart h = rw (lt-leb d.size 4 h)

  entry_inline : d.size ≤ 4 → (entry_for b d p x).data_offset ≡ be 4 (bytes_of b d) 0
  unfolding entry_for
  entry_inline h = rw (le-leb d.size 4 h)

  entry_fits : d.name < 0x100000000 → mag d.number < 0x80000000 → d.element_type < 0x10000 → Sound b d → ((i : ℕ) → get_or b i 0 < 256) → x < 0x80000000 → Fits (entry_for b d p x)
  unfolding entry_for
  entry_fits a n k s w h =
      record {
        name_fits = a;
        number_fits = bits_fit 4 d.number (omega arith) n;
        type_fits = k;
        width_fits = omega (arith, size_small d.element_type);
        count_fits = omega (arith, s.count_fits);
        size_fits = omega (arith, s.size_fits);
        offset_fits = go (leb d.size 4);
      }
    where
      go : (t : Bool) → pick t (be 4 (bytes_of b d) 0) x < 0x100000000
      go true = be_below 4 (bytes_of b d) 0 (part_bytes b d w)
      go false = omega arith

  -- it passes the checks of an entry
  entry_pass : (s : List ℕ) → Sound b d → 128 ≤ x → x < 0x80000000 → x + size_outside d.size ≤ length s → answer (entry_check (entry_for b d p x)) s ≡ ok (data_end (entry_for b d p x))
  unfolding entry_for
  entry_pass s q l m r =
      entry_passes s (entry_for b d p x)
      (λ h. let z : (entry_for b d p x).data_offset ≡ x = entry_apart h in
      let y : x + d.size ≤ length s = rw (lt-leb d.size 4 h) at r in
      (rw z l, rw z m, rw z y))
      (sizes_pass s (entry_for b d p x) (type_of d.element_type) d.element_type (size_small d.element_type) q.count_fits q.size_fits q.taken refl q.sized)

  -- its data end within what they take
  entry_end : (y : ℕ) → x + size_outside d.size ≤ y → data_end (entry_for b d p x) ≤ y
  entry_end y r = rw entry_size_lem (go (leb d.size 4) refl)
    where
      go : (t : Bool) → leb d.size 4 ≡ t → pick (leb d.size 4) 0 ((entry_for b d p x).data_offset + d.size) ≤ y
      go true e = rw e (omega arith)
      go false e =
          let h : 4 < d.size = leb-false d.size 4 e in
          let z : x + d.size ≤ y = rw e at r in
          rw (e, entry_apart h) z

-- the header is read back
module _ (n p : ℕ) (few : n ≤ 999) (least : 128 ≤ p) (short : p + 28 * n ≤ 0x7fffffff) where
  header_entry : entry_of (header_bytes n p) 6 ≡ tdir n p
  unfolding header_bytes digits entry_bytes tag_bytes data_bytes tdir
  header_entry =
      entry_back (digits 4 0x41424946 ++ digits 2 101) (replicate 94 0) (tdir n p) refl
      (record { name_fits = omega arith; number_fits = omega arith; type_fits = omega arith; width_fits = omega arith; count_fits = omega arith; size_fits = omega arith; offset_fits = omega arith })

  header_mark : be 4 (header_bytes n p) 0 ≡ 0x41424946
  unfolding be header_bytes digits
  header_mark = refl

  header_version : be 2 (header_bytes n p) 4 ≡ 101
  unfolding be header_bytes digits
  header_version = refl

  header_pass : (s : List ℕ) → answer (header_check 0x41424946 101 (tdir n p)) s ≡ ok tt
  unfolding header_check tdir answer
  header_pass s = refl

  bounds_pass : (s : List ℕ) → answer (bounds_check (tdir n p)) s ≡ ok tt
  unfolding bounds_check tdir holds
  bounds_pass s =
      let a : n < 0x80000000 = omega arith in
      let b : 28 * n < 0x80000000 = omega arith in
      let c : p < 0x80000000 = omega arith in
      let d : 28 * n ≤ 28 * n = omega arith in
      simp (answer_bind, answer_must, lt-leb _ _ a, lt-leb _ _ b, lt-leb _ _ c, le-leb _ _ d, le-leb _ _ few, le-leb _ _ least)

  -- a file that begins with a header opens
  header_opens : (s r : List ℕ) → s ≡ header_bytes n p ++ r → p + 28 * n ≤ length s → answer directory s ≡ ok (record { place = p; count = n; up_to = take (p + 28 * n) s })
  unfolding tdir
  header_opens s r es l =
      let t : take 128 s ≡ header_bytes n p = ap (take 128) es ∙ take_at (header_bytes n p) r 128 (length_header n p) in
      let d : entry_of (take 128 s) 6 ≡ tdir n p = ap (λ (x : List ℕ). entry_of x 6) t ∙ header_entry in
      let m : answer (header_check (be 4 (take 128 s) 0) (be 2 (take 128 s) 4) (entry_of (take 128 s) 6)) s ≡ ok tt = rw (d, t, header_mark, header_version) (header_pass s) in
      let b : answer (bounds_check (entry_of (take 128 s) 6)) s ≡ ok tt = rw d (bounds_pass s) in
      let q : directory_end (entry_of (take 128 s) 6) ≤ length s = subst (λ (e : Entry). directory_end e ≤ length s) (sym d) l in
      subst (λ (e : Entry). answer directory s ≡ ok (record { place = e.data_offset; count = e.element_count; up_to = take (directory_end e) s })) d (directory_passes s (omega arith) m b q)

-- the data up to an item, and its own
total_le : (g : ℕ → Item) (j k m i : ℕ) → j ≡ i + k → k < m → total_outside g k i + size_outside (g j).size ≤ total_outside g m i
unfolding total_outside
total_le g j k zero i e h = absurd (omega arith)
total_le g j zero (suc m) i e h =
    let y : i ≡ j = omega arith in
    rw y (omega arith)
total_le g j (suc k) (suc m) i e h =
    let v : total_outside g k (i + 1) + size_outside (g j).size ≤ total_outside g m (i + 1) = total_le g j k m (i + 1) (omega arith) (omega arith) in
    omega arith

-- what lookup of item d's tag answers in the file s
pub record Found (s b : List ℕ) (d : Item) : Type 0 where
  pub found : ItemData
  pub answers : answer (looking_up d.name (bits 4 d.number)) s ≡ ok found
  pub of_type : found.code ≡ d.element_type
  pub of_count : found.count ≡ d.count
  pub of_bytes : bytes_at s (data_span found) ≡ bytes_of b d

module _ (g : ℕ → Item) (b : List ℕ) (n : ℕ) (lent : Lent g b) (checked : (k : ℕ) → k < n → Sound b (g k) × (ordered g k ≡ true)) (few : n ≤ 999) (short : length (file g b n) ≤ 0x7fffffff) where
  sound : (k : ℕ) → k < n → Sound b (g k)
  sound k h = (checked k h).0

  abbrev place : ℕ
  place = directory_place g n

  long : length (file g b n) ≡ place + 28 * n
  long = length_file g b n sound

  -- what stands before the directory
  before : List ℕ
  before = header_bytes n place ++ all_data g b n 0

  length_before : length before ≡ place
  unfolding before
  length_before = rw (length-append, length_header n place, length_datas g b n 0 (λ k q. sound k (omega arith)))

  file_is : file g b n ≡ before ++ entries g b place n 0 128
  unfolding file before
  file_is = sym (append_assoc (header_bytes n place) (all_data g b n 0) (entries g b place n 0 128))

  -- where item k's data stand, if outside its entry, and its entry
  abbrev at : ℕ → ℕ
  at k = 128 + total_outside g k 0

  abbrev entry : ℕ → Entry
  entry k = entry_for b (g k) (place + 28 * k) (at k)

  at_fits : (k : ℕ) → k < n → at k + size_outside (g k).size ≤ place
  at_fits k h = omega (arith, total_le g k k n 0 (omega arith) h)

  -- the file around entry k
  around : (k : ℕ) → k < n → (u : List ℕ) × (r : List ℕ) × (file g b n ≡ u ++ (entry_bytes (entry k) ++ r)) × (length u ≡ place + 28 * k)
  around k h =
      let v = entries_split g b place k k n 0 128 (omega arith) h in
      (before ++ v.0, v.1, file_is ∙ rw v.2 (sym (append_assoc before v.0 (entry_bytes (entry k) ++ v.1))), rw (length-append, length_before, v.3))

  entry_is : (k : ℕ) → k < n → entry_of (file g b n) (place + 28 * k) ≡ entry k
  entry_is k h =
      let v = around k h in
      let f = at_fits k h in
      let l = long in
      let z : (entry k).place ≡ length v.0 = entry_place b (g k) (place + 28 * k) (at k) ∙ sym v.3 in
      let y = entry_back v.0 v.1 (entry k) z (entry_fits b (g k) (place + 28 * k) (at k) (lent.names k) (lent.numbers k) (lent.types k) (sound k h) lent.bytes (omega arith)) in
      ap (λ (s : List ℕ). entry_of s (place + 28 * k)) v.2 ∙ subst (λ (q : ℕ). entry_of (v.0 ++ (entry_bytes (entry k) ++ v.1)) q ≡ entry k) v.3 y

  passes : (k : ℕ) → k < n → answer (entry_check (entry k)) (file g b n) ≡ ok (data_end (entry k))
  passes k h =
      let f = at_fits k h in
      let l = long in
      entry_pass b (g k) (place + 28 * k) (at k) (file g b n) (sound k h) (omega arith) (omega arith) (omega arith)

  abbrev found_directory : Directory
  found_directory = record { place = place; count = n; up_to = file g b n }

  opens : answer directory (file g b n) ≡ ok found_directory
  unfolding file
  opens =
      let l = long in
      header_opens n place few (omega arith) (omega arith) (file g b n) (all_data g b n 0 ++ entries g b place n 0 128) refl (omega arith)
      ∙ rw (take_all (place + 28 * n) (file g b n) (omega arith))

  -- entry j's tag
  tag_of : (j x y : ℕ) → j < n → has_tag (file g b n) place x y j ≡ pick (eqb (g j).name x) (eqb (bits 4 (g j).number) y) false
  unfolding has_tag
  tag_of j x y h = rw (entry_is j h, entry_name b (g j) (place + 28 * j) (at j), entry_number b (g j) (place + 28 * j) (at j))

  other_tag : (j k : ℕ) → j < n → k < n → (((g j).name ≡ (g k).name) × (bits 4 (g j).number ≡ bits 4 (g k).number) → ⊥) → has_tag (file g b n) place (g k).name (bits 4 (g k).number) j ≡ false
  other_tag j k h l f = tag_of j (g k).name (bits 4 (g k).number) h ∙ differ (g j).name (bits 4 (g j).number) (g k).name (bits 4 (g k).number) f

  two : (j k : ℕ) → j < k → k < n → ((g j).name ≡ (g k).name) × (bits 4 (g j).number ≡ bits 4 (g k).number) → ⊥
  two = two_tags g n lent.numbers (λ k h. (checked k h).1)

  judges : (k : ℕ) → k < n → answer (judge_entry (file g b n) place k) (file g b n) ≡ ok (data_end (entry k))
  judges k h =
      judged_new (file g b n) (file g b n) place k (data_end (entry k))
      (λ j l. rw (entry_is k h, entry_name b (g k) (place + 28 * k) (at k), entry_number b (g k) (place + 28 * k) (at k)) (other_tag j k (omega arith) h (two j k l h)))
      (rw (entry_is k h) (passes k h))

  pub trip_whole : answer judging (file g b n) ≡ ok (length (file g b n))
  trip_whole =
      let l = long in
      judging_passes (file g b n) found_directory (length (file g b n)) opens (omega arith)
      (λ k p q. (data_end (entry k), entry_end b (g k) (place + 28 * k) (at k) (length (file g b n)) (omega (arith, at_fits k (omega arith))), judges k (omega arith)))

  pub trip_opens : answer opening (file g b n) ≡ ok (length (file g b n) - 28 * n, n)
  trip_opens =
      let l = long in
      let z : place ≡ length (file g b n) - 28 * n = omega arith in
      rw (← z) (opening_passes (file g b n) found_directory opens)

  -- item k is the first with its tag, and there is none behind it
  own_tag : (k : ℕ) → k < n → has_tag (file g b n) place (g k).name (bits 4 (g k).number) k ≡ true
  own_tag k h = tag_of k (g k).name (bits 4 (g k).number) h ∙ rw (eq-eqb (g k).name (g k).name refl, eq-eqb (bits 4 (g k).number) (bits 4 (g k).number) refl)

  first_own : (k : ℕ) → k < n → first_with (has_tag (file g b n) place (g k).name (bits 4 (g k).number)) n 0 ≡ k
  first_own k h =
      first_is (has_tag (file g b n) place (g k).name (bits 4 (g k).number)) k n 0 (omega arith) (omega arith)
      (λ j p q. other_tag j k (omega arith) h (two j k q h))
      (own_tag k h)

  none_behind : (k : ℕ) → k < n → first_with (has_tag (file g b n) place (g k).name (bits 4 (g k).number)) (n - (k + 1)) (k + 1) ≡ n
  none_behind k h =
      first_none (has_tag (file g b n) place (g k).name (bits 4 (g k).number)) (n - (k + 1)) (k + 1)
      (λ j p q. other_tag j k (omega arith) h (λ e. two k j (omega arith) (omega arith) (sym e.0, sym e.1)))
      ∙ omega arith

  finds : (k : ℕ) → k < n → answer (looking_up (g k).name (bits 4 (g k).number)) (file g b n) ≡ ok (data_of (entry k))
  finds k h =
      lookup_finds (file g b n) found_directory opens (g k).name (bits 4 (g k).number) k (data_end (entry k)) h (first_own k h) (none_behind k h) (rw (entry_is k h) (passes k h))
      ∙ rw (entry_is k h)

  pub trip_only : (x y : ℕ) → ((k : ℕ) → k < n → ((g k).name ≡ x) × (bits 4 (g k).number ≡ y) → ⊥) → answer (looking_up x y) (file g b n) ≡ refused 7 0
  trip_only x y f =
      lookup_misses (file g b n) found_directory opens x y
      (first_none (has_tag (file g b n) place x y) n 0 (λ j p q. tag_of j x y (omega arith) ∙ differ (g j).name (bits 4 (g j).number) x y (f j (omega arith))) ∙ omega arith)

  -- the data found are the data given
  part_long : (k : ℕ) → k < n → length (bytes_of b (g k)) ≡ (g k).size
  part_long k h =
      let p = (sound k h).present in
      simp (length-take, length-drop) (omega arith)

  data_inline : (k : ℕ) → k < n → (g k).size ≤ 4 → take (g k).size (drop (place + 28 * k + 20) (file g b n)) ≡ bytes_of b (g k)
  data_inline k h l =
      let v = around k h in
      let q = bytes_of b (g k) in
      let z : List ℕ = replicate (4 - length q) 0 in
      let e : digits 4 (entry k).data_offset ≡ q ++ z = ap (digits 4) (entry_inline b (g k) (place + 28 * k) (at k) l) ∙ digits_be 4 q (part_bytes b (g k) lent.bytes) (rw (part_long k h) l) in
      let y : drop (place + 28 * k + 20) (file g b n) ≡ digits 4 (entry k).data_offset ++ (digits 4 0 ++ v.1) =
      ap (drop (place + 28 * k + 20)) v.2 ∙ subst (λ (i : ℕ). drop (i + 20) (v.0 ++ (entry_bytes (entry k) ++ v.1)) ≡ digits 4 (entry k).data_offset ++ (digits 4 0 ++ v.1)) v.3 (inline_back v.0 v.1 (entry k)) in
      rw (y, e, append_assoc) (take_at q (z ++ (digits 4 0 ++ v.1)) (g k).size (part_long k h))

  -- the file around item k's data
  around_data : (k : ℕ) → k < n → 4 < (g k).size → (u : List ℕ) × (r : List ℕ) × (file g b n ≡ u ++ (bytes_of b (g k) ++ r)) × (length u ≡ at k)
  unfolding file
  around_data k h l =
      let v = datas_split g b k k n 0 (omega arith) (λ q w. sound q (omega arith)) h l in
      (header_bytes n place ++ v.0, v.1 ++ entries g b place n 0 128, rw v.2 (simp append_assoc), rw (length-append, length_header n place, v.3))

  data_apart : (k : ℕ) → k < n → 4 < (g k).size → take (g k).size (drop (at k) (file g b n)) ≡ bytes_of b (g k)
  data_apart k h l =
      let v = around_data k h l in
      rw (v.2, drop_at v.0 (bytes_of b (g k) ++ v.1) (at k) v.3) (take_at (bytes_of b (g k)) v.1 (g k).size (part_long k h))

  data_is : (k : ℕ) → k < n → bytes_at (file g b n) (data_span (data_of (entry k))) ≡ bytes_of b (g k)
  unfolding data_of
  data_is k h = rw (entry_size_lem b (g k) (place + 28 * k) (at k), entry_place b (g k) (place + 28 * k) (at k)) (go (leb (g k).size 4) refl)
    where
      go : (t : Bool) → leb (g k).size 4 ≡ t → take (g k).size (drop (pick (leb (g k).size 4) (place + 28 * k + 20) (entry k).data_offset) (file g b n)) ≡ bytes_of b (g k)
      go true p = rw p (data_inline k h (leb-true (g k).size 4 p))
      go false p =
          let l : 4 < (g k).size = leb-false (g k).size 4 p in
          rw (p, entry_apart b (g k) (place + 28 * k) (at k) l) (data_apart k h l)

  pub trip_kept : (k : ℕ) → k < n → Found (file g b n) b (g k)
  unfolding data_of entry_for
  trip_kept k h = record { found = data_of (entry k); answers = finds k h; of_type = refl; of_count = refl; of_bytes = data_is k h }
