-- What the reading calls of ABIF need: judging just the extent that it answers, and no other call more.
use Prim.Native.Nat.{ℕ, ◌+◌, ◌*◌, ◌≤◌, ◌<◌, max, min}
use mathlib.Core.Path.{◌≡◌, sym, ◌∙◌, ap, subst}
use mathlib.Core.List.{List}
use mathlib.Core.Bool.{Bool, true, false}
use native.Mathlib.Omega.{arith}
use lib.ListN.{length, take, length-take}
use lib.Dec.{leb}
use Rattle.reading.specs.Choice.{pick}
use Rattle.reading.specs.declared.check.Rule.TheVariants.{AtLeast}
use Rattle.reading.specs.Check.{Check, ok, answer, done, must, need, ◌>>◌}
use Rattle.reading.proofs.Needed.{reach}
use Rattle.reading.specs.Entries.{in_order}
use Rattle.reading.proofs.Cut.{answer_same}
use Rattle.reading.proofs.Steps.{reach_done, reach_must, reach_need}
use Rattle.reading.proofs.Passed.{bind_ok, done_ok, ok_inj}
use Rattle.reading.proofs.Reach.{reach_none, reach_under, reach_must_under, reach_done_under}
use Rattle.reading.proofs.Entries.{one_ok, one_needs_none, order_ends}
use Rattle.reading.specs.declared.item.ItemData.{ItemData}
use Rattle.abif.specs.declared.entry.Entry.{Entry}
use Rattle.abif.specs.declared.entry.ElementType.{ElementType}
use Rattle.abif.specs.declared.entry.ElementType.TheVariants.{Listed, Raw, Unknown}
use Rattle.abif.specs.Entry.{entry_of, has_tag, data_offset, type_of, listed_check, raw_check, sizes_check, place_check, entry_check}
use Rattle.abif.specs.Directory.{Directory, header_check, bounds_check, directory, opening}
use Rattle.abif.specs.Judge.{judge_entry, judging}
use Rattle.abif.specs.Lookup.{item_of, lookup_in, looking_up}
use Rattle.abif.proofs.lookup.Laws.{found_checked}

header_none : (a b : ℕ) (d : Entry) (s : List ℕ) → reach (header_check a b d) s ≡ 0
unfolding header_check
header_none a b d s = search (reach_none, reach_must) depth 12

bounds_none : (d : Entry) (s : List ℕ) → reach (bounds_check d) s ≡ 0
unfolding bounds_check
bounds_none d s = search (reach_none, reach_must) depth 12

sizes_none : (k : ElementType) (d : Entry) (s : List ℕ) → reach (sizes_check k d) s ≡ 0
unfolding sizes_check listed_check raw_check
sizes_none (Listed w) d s = search (reach_none, reach_must) depth 12
sizes_none Raw d s = search (reach_none, reach_must) depth 12
sizes_none Unknown d s = search reach_must

-- the end of an entry's data, 0 for data in the entry
item_end : Entry → ℕ
item_end d = pick (leb d.data_size 4) 0 (d.data_offset + d.data_size)

-- where data stand outside the entry: their place and presence
outside_check : Entry → Check ℕ
outside_check d = must (data_offset d) (AtLeast 128) 6 >> (need d.data_offset (d.data_offset + d.data_size) >> done (d.data_offset + d.data_size))

-- the end of an entry's data is what its checks answer, and what they need
place_end : (d : Entry) (s : List ℕ) (y : ℕ) → answer (place_check d) s ≡ ok y → (item_end d ≡ y) × (reach (place_check d) s ≡ y)
unfolding place_check item_end outside_check
place_end d s y h = go (leb d.data_size 4) h
  where
    m : ℕ
    m = d.data_offset + d.data_size

    go : (b : Bool) → answer (pick b (done 0) (outside_check d)) s ≡ ok y → (pick b 0 m ≡ y) × (reach (pick b (done 0) (outside_check d)) s ≡ y)
    go true w = (done_ok 0 y s w, reach_done 0 s ∙ done_ok 0 y s w)
    go false w =
        let a = bind_ok _ _ s y w in
        let c = bind_ok _ _ s y a.2 in
        let z : m ≡ y = done_ok m y s c.2 in
        (z, simp (a.3, c.3, reach_must, reach_need, reach_done) (omega arith))

-- whatever its outcome, the check of an entry needs no more than the end of its data
entry_under : (x : ℕ) (d : Entry) (s : List ℕ) → item_end d ≤ x → reach (entry_check d) s ≤ x
unfolding entry_check place_check item_end outside_check
entry_under x d s h = reach_under x _ _ s (rw (sizes_none (type_of d.element_type) d s) (omega arith)) (λ _ _. go (leb d.data_size 4) h)
  where
    go : (b : Bool) → pick b 0 (d.data_offset + d.data_size) ≤ x → reach (pick b (done 0) (outside_check d)) s ≤ x
    go true q = reach_done_under x 0 s
    go false q =
        reach_under x _ _ s (reach_must_under x _ _ _ s) (λ _ _.
        reach_under x _ _ s (rw (reach_need d.data_offset (d.data_offset + d.data_size) s) q) (λ _ _. reach_done_under x _ s))

entry_end : (h : List ℕ) (p i : ℕ) (s : List ℕ) (y : ℕ) → answer (judge_entry h p i) s ≡ ok y → (item_end (entry_of h (p + 28 * i)) ≡ y) × (reach (judge_entry h p i) s ≡ y)
unfolding judge_entry entry_check
entry_end h p i s y w =
    let a = bind_ok _ _ s y w in
    let b = bind_ok _ _ s y a.2 in
    let e = place_end (entry_of h (p + 28 * i)) s y b.2 in
    (e.0, simp (a.3, b.3, reach_must, sizes_none, e.1) (omega arith))

-- the entries of a file that is judged whole end within the extent, and need no more
each_end : (h : List ℕ) (p n x : ℕ) (s : List ℕ) (z : ℕ) → answer (in_order (judge_entry h p) n 0 x) s ≡ ok z → (max x (reach (in_order (judge_entry h p) n 0 x) s) ≡ z) × (x ≤ z) × ((j : ℕ) → j < n → item_end (entry_of h (p + 28 * j)) ≤ z)
each_end h p n x s z w =
    let g = order_ends (judge_entry h p) s 0 n 0 x z (omega arith) (λ j y _ _ o. ap (max 0) (entry_end h p j s y o).1) w in
    (g.0, g.1, λ j k. let v = g.2 j (omega arith) (omega arith) in omega (arith, (entry_end h p j s v.0 v.1).0))

directory_reach : (s : List ℕ) (d : Directory) → answer directory s ≡ ok d → reach directory s ≡ max 128 (d.place + 28 * d.count)
unfolding directory
directory_reach s d w =
    let b = bind_ok _ _ s d w in
    let c = bind_ok _ _ s d b.2 in
    let e = bind_ok _ _ s d c.2 in
    let f = bind_ok _ _ s d e.2 in
    let g = done_ok _ d s f.2 in
    simp (b.3, c.3, e.3, f.3, header_none, bounds_none, reach_need, reach_done, ← g) (omega arith)

-- the extent is the number of bytes that judging needs
pub extent : (s : List ℕ) (x : ℕ) → answer judging s ≡ ok x → reach judging s ≡ x
unfolding judging
extent s x w =
    let a = bind_ok directory _ s x w in
    let f = directory_reach s a.0 a.1 in
    let g = each_end a.0.up_to a.0.place a.0.count (max 128 (a.0.place + 28 * a.0.count)) s x a.2 in
    simp (a.3, f) (omega arith)

pub directory_under : (s : List ℕ) (x : ℕ) → answer judging s ≡ ok x → reach directory s ≤ x
unfolding judging
directory_under s x w =
    let a = bind_ok directory _ s x w in
    omega (arith, extent s x w)

pub opening_under : (s : List ℕ) (x : ℕ) → answer judging s ≡ ok x → reach opening s ≤ x
unfolding opening
opening_under s x w = reach_under x _ _ s (directory_under s x w) (λ d e. reach_done_under x _ s)

pub lookup_under : (a b : ℕ) (s : List ℕ) (x : ℕ) → answer judging s ≡ ok x → reach (looking_up a b) s ≤ x
unfolding judging looking_up lookup_in item_of
lookup_under a b s x w =
    let v = bind_ok directory _ s x w in
    let f = directory_reach s v.0 v.1 in
    let g = each_end v.0.up_to v.0.place v.0.count (max 128 (v.0.place + 28 * v.0.count)) s x v.2 in
    let t = has_tag v.0.up_to v.0.place a b in
    reach_under x _ _ s (omega arith) (λ d e.
    let k : v.0 ≡ d = ok_inj (sym v.1 ∙ e) in
    subst (λ (d : Directory). reach (lookup_in d.up_to d.place d.count a b) s ≤ x) k
    (reach_under x _ _ s (rw (one_needs_none t v.0.count s) (omega arith)) (λ i q.
    reach_under x _ _ s
    (entry_under x _ s (g.2 i (one_ok t v.0.count i s q).1))
    (λ _ _. reach_done_under x _ s))))

-- the data that lookup finds lie within the extent
pub found_under : (a b : ℕ) (s : List ℕ) (x : ℕ) → answer judging s ≡ ok x → (q : ItemData) → answer (looking_up a b) s ≡ ok q → q.start + q.size ≤ x
found_under a b s x w q e =
    let f = found_checked (take x s) a b q (answer_same (looking_up a b) x s (lookup_under a b s x w) ∙ e) in
    let l : length (take x s) ≡ min x (length s) = length-take x s in
    omega arith
