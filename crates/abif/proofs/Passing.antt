-- What passes the checks of the reading calls of ABIF, for the files that a writer makes.
use Prim.Native.Nat.{ℕ, ◌+◌, ◌-◌, ◌*◌, ◌≤◌, ◌<◌, max}
use mathlib.Core.Path.{◌≡◌, refl, sym}
use mathlib.Core.List.{List}
use mathlib.Core.Bool.{Bool, true, false}
use native.Mathlib.Omega.{arith}
use lib.ListN.{length, take}
use lib.Dec.{leb, eqb}
use borrow.Author.Tests.{le-leb, lt-leb, eq-eqb, ne_eqb, leb-false, eqb-true, le-ltb}
use Rattle.reading.specs.Choice.{pick}
use Rattle.reading.specs.Number.{be}
use Rattle.reading.specs.declared.check.Rule.TheVariants.{AtLeast}
use Rattle.reading.specs.Check.{ok, refused, answer, holds, done, must, need, ◌>>◌}
use Rattle.reading.specs.Entries.{first_with, one_with}
use Rattle.reading.proofs.Cut.{answer_plain}
use Rattle.reading.proofs.Steps.{answer_bind, answer_must, answer_done, answer_need_present}
use Rattle.reading.proofs.Entries.{first_none, one_none, one_found, order_passes}
use Rattle.abif.specs.declared.entry.Entry.{Entry}
use Rattle.abif.specs.Entry.{entry_of, has_tag, type_of, data_offset, listed_check, raw_check, sizes_check, place_check, entry_check}
use Rattle.abif.specs.Directory.{Directory, directory_end, header_check, bounds_check, directory, opening}
use Rattle.abif.specs.Judge.{judge_entry, judging}
use Rattle.abif.specs.Lookup.{data_of, item_of, lookup_in, looking_up}

-- the header and directory checks
module _ (s : List ℕ) (h : 128 ≤ length s) where
  pub directory_passes : answer (header_check (be 4 (take 128 s) 0) (be 2 (take 128 s) 4) (entry_of (take 128 s) 6)) s ≡ ok tt → answer (bounds_check (entry_of (take 128 s) 6)) s ≡ ok tt → directory_end (entry_of (take 128 s) 6) ≤ length s → answer directory s ≡ ok (record { place = (entry_of (take 128 s) 6).data_offset; count = (entry_of (take 128 s) 6).element_count; up_to = take (directory_end (entry_of (take 128 s) 6)) s })
  unfolding directory
  directory_passes m b l = simp (answer_bind, answer_need_present 0 128 s h, m, b, answer_need_present (entry_of (take 128 s) 6).data_offset (directory_end (entry_of (take 128 s) 6)) s l, answer_done)

pub opening_passes : (s : List ℕ) (d : Directory) → answer directory s ≡ ok d → answer opening s ≡ ok (d.place, d.count)
unfolding opening
opening_passes s d h = simp (answer_bind, h, answer_done)

-- the checks of an entry
module _ (s : List ℕ) (d : Entry) (narrow : d.element_size < 0x8000) (few : d.element_count < 0x80000000) (small : d.data_size < 0x80000000) where
  pub listed_passes : (w : ℕ) → d.element_size ≡ w → d.data_size ≡ w * d.element_count → answer (listed_check w d) s ≡ ok tt
  unfolding listed_check holds
  listed_passes w a b = simp (answer_bind, answer_must, lt-leb _ _ narrow, eq-eqb _ _ a, lt-leb _ _ few, lt-leb _ _ small, eq-eqb _ _ b)

  pub raw_passes : answer (raw_check d) s ≡ ok tt
  unfolding raw_check holds
  raw_passes = simp (answer_bind, answer_must, lt-leb _ _ narrow, lt-leb _ _ few, lt-leb _ _ small)

-- the end of an entry's data, 0 for data in the entry
abbrev pub data_end : Entry → ℕ
data_end d = pick (leb d.data_size 4) 0 (d.data_offset + d.data_size)

module _ (s : List ℕ) (d : Entry) (h : 4 < d.data_size → (128 ≤ d.data_offset) × (d.data_offset < 0x80000000) × (d.data_offset + d.data_size ≤ length s)) where
  place_passes : answer (place_check d) s ≡ ok (data_end d)
  unfolding place_check holds
  place_passes = go (leb d.data_size 4) refl
    where
      end : ℕ
      end = d.data_offset + d.data_size

      go : (t : Bool) → leb d.data_size 4 ≡ t → answer (pick t (done 0) (must (data_offset d) (AtLeast 128) 6 >> (need d.data_offset end >> done end))) s ≡ ok (pick t 0 end)
      go true p = answer_done 0 s
      go false p =
          let l = h (leb-false d.data_size 4 p) in
          simp (answer_bind, answer_must, lt-leb _ _ l.1, le-leb _ _ l.0, answer_need_present d.data_offset end s l.2, answer_done)

  pub entry_passes : answer (sizes_check (type_of d.element_type) d) s ≡ ok tt → answer (entry_check d) s ≡ ok (data_end d)
  unfolding entry_check
  entry_passes e = simp (answer_bind, e) place_passes

-- two pairs of numbers that are not both equal
pub differ : (a b x y : ℕ) → ((a ≡ x) × (b ≡ y) → ⊥) → pick (eqb a x) (eqb b y) false ≡ false
differ a b x y f = go (eqb a x) refl
  where
    go : (t : Bool) → eqb a x ≡ t → pick t (eqb b y) false ≡ false
    go true p = ne_eqb b y (λ q. f (eqb-true a x p, q))
    go false p = refl

-- an entry whose tag no earlier entry has, and whose checks pass
pub judged_new : (h s : List ℕ) (p i y : ℕ) → ((k : ℕ) → k < i → has_tag h p (entry_of h (p + 28 * i)).name (entry_of h (p + 28 * i)).number k ≡ false) → answer (entry_check (entry_of h (p + 28 * i))) s ≡ ok y → answer (judge_entry h p i) s ≡ ok y
unfolding judge_entry holds
judged_new h s p i y f e =
    let d = entry_of h (p + 28 * i) in
    let t = has_tag h p d.name d.number in
    let n : i ≤ first_with t i 0 = omega (arith, first_none t i 0 (λ k _ l. f k (omega arith))) in
    simp (answer_bind, answer_must, le-ltb (first_with t i 0) i n, e)

-- judging a file whose extent is its directory's end
pub judging_passes : (s : List ℕ) (d : Directory) (x : ℕ) → answer directory s ≡ ok d → max 128 (d.place + 28 * d.count) ≡ x → ((k : ℕ) → 0 ≤ k → k < 0 + d.count → (y : ℕ) × (y ≤ x) × (answer (judge_entry d.up_to d.place k) s ≡ ok y)) → answer judging s ≡ ok x
unfolding judging
judging_passes s d x h e f = simp (answer_bind, h, e) (order_passes (judge_entry d.up_to d.place) s x d.count 0 f)

-- lookup in a file that opens
module _ (s : List ℕ) (d : Directory) (h : answer directory s ≡ ok d) (a b : ℕ) where
  abbrev tagged : ℕ → Bool
  tagged = has_tag d.up_to d.place a b

  pub lookup_finds : (k y : ℕ) → k < d.count → first_with tagged d.count 0 ≡ k → first_with tagged (d.count - (k + 1)) (k + 1) ≡ d.count → answer (entry_check (entry_of d.up_to (d.place + 28 * k))) s ≡ ok y → answer (looking_up a b) s ≡ ok (data_of (entry_of d.up_to (d.place + 28 * k)))
  unfolding looking_up lookup_in item_of
  lookup_finds k y l f g e = simp (answer_bind, answer_done, h, answer_plain (one_with tagged d.count) s, one_found tagged d.count k (sym f) s l d.count (sym g) refl, e)

  pub lookup_misses : first_with tagged d.count 0 ≡ d.count → answer (looking_up a b) s ≡ refused 7 0
  unfolding looking_up lookup_in
  lookup_misses f = simp (answer_bind, h, answer_plain (one_with tagged d.count) s, one_none tagged d.count d.count (sym f) s (omega arith))
