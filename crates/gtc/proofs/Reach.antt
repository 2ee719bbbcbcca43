-- What the reading calls of GTC need: judging just the extent that it answers, and no other call more.
use Prim.Native.Nat.{ℕ, ◌+◌, ◌≤◌, ◌<◌, max, min}
use mathlib.Core.Path.{◌≡◌, refl, sym, ◌∙◌, ap, subst}
use mathlib.Core.List.{List}
use native.Mathlib.Omega.{arith}
use lib.ListN.{length, take, length-take}
use Rattle.reading.specs.Check.{ok, answer}
use Rattle.reading.proofs.Needed.{reach}
use Rattle.reading.specs.Entries.{in_order}
use Rattle.reading.proofs.Cut.{answer_same}
use Rattle.reading.proofs.Steps.{reach_done, reach_must, reach_need}
use Rattle.reading.proofs.Passed.{bind_ok, done_ok, ok_inj}
use Rattle.reading.proofs.Reach.{reach_none, reach_under, reach_must_under}
use Rattle.reading.proofs.Entries.{beyond, order_ends}
use Rattle.gtc.specs.declared.entry.Entry.{Entry}
use Rattle.gtc.specs.declared.item.Stored.{Stored}
use Rattle.std.specs.Prelude.{Option}
use Rattle.std.specs.Prelude.{Some, None}
use Rattle.reading.specs.declared.item.ItemData.{ItemData}
use Rattle.gtc.specs.Table.{Table, table_end, mark_check, count_check, table, place_of_entry}
use Rattle.gtc.specs.Entry.{entry_of}
use Rattle.gtc.specs.Item.{listing_of, item_check, item_end}
use Rattle.gtc.specs.Judge.{Extent, judge_as, judge_entry, judge_table, judging}
use Rattle.gtc.specs.Lookup.{stored_of, lookup_listed, lookup_in, looking_up}
use Rattle.gtc.proofs.entry.Laws.{with_found, with_none_needed, entry_place}
use Rattle.gtc.proofs.item.Laws.{item_end_lem}
use Rattle.gtc.proofs.lookup.Laws.{listed_ok, lookup_within}

mark_none : (a b : ℕ) (s : List ℕ) → reach (mark_check a b) s ≡ 0
unfolding mark_check
mark_none a b s = search (reach_none, reach_must) depth 12

count_none : (n : ℕ) (s : List ℕ) → reach (count_check n) s ≡ 0
unfolding count_check
count_none n s = search (reach_none, reach_must) depth 12

table_reach : (s : List ℕ) (t : Table) → answer table s ≡ ok t → reach table s ≡ table_end t.count
unfolding table
table_reach s t w =
    let b = bind_ok _ _ s t w in
    let c = bind_ok _ _ s t b.2 in
    let d = bind_ok _ _ s t c.2 in
    let e = bind_ok _ _ s t d.2 in
    let g = done_ok _ t s e.2 in
    simp (b.3, c.3, d.3, e.3, mark_none, count_none, reach_need, reach_done, ← g) (omega arith)

-- the checks of an entry whose id is listed need no more than x bytes
abbrev Within : List ℕ → ℕ → List ℕ → ℕ → Entry → Type 0
Within h n s x d = (v : Stored) → listing_of d.id ≡ Some v → reach (item_check v h n d) s ≤ x

-- an entry's end is what judging it needs beyond the table, and a listed entry's own checks need no more
entry_end : (h : List ℕ) (n i : ℕ) (s : List ℕ) (y : ℕ) → answer (judge_entry h n i) s ≡ ok y → (max (table_end (i + 1)) (reach (judge_entry h n i) s) ≡ max (table_end (i + 1)) y) × Within h n s (max (table_end (i + 1)) y) (entry_of h (place_of_entry i))
unfolding judge_entry judge_as
entry_end h n i s y w = go (listing_of d.id) refl w
  where
    d : Entry
    d = entry_of h (place_of_entry i)

    go : (l : Option Stored) → listing_of d.id ≡ l → answer (judge_as l h n i d) s ≡ ok y → (max (table_end (i + 1)) (reach (judge_as l h n i d) s) ≡ max (table_end (i + 1)) y) × Within h n s (max (table_end (i + 1)) y) d
    go (Some v) f q =
        let a = bind_ok _ _ s y q in
        let b = bind_ok (item_check v h n d) _ s y a.2 in
        let z : item_end b.0 ≡ y = done_ok _ y s b.2 in
        let e = item_end_lem v h n d s b.0 b.1 in
        let p : d.place ≡ place_of_entry i = entry_place h (place_of_entry i) in
        (simp (a.3, b.3, reach_must, reach_done) (omega arith), λ u r. let k : v ≡ u = cc in rw (← k) (omega arith))
    go None f q =
        let z : 0 ≡ y = done_ok 0 y s q in
        (simp reach_done (omega arith), λ u r. let k : ◌≡◌ {A = ℕ} 0 1 = cc in absurd (omega arith))

-- the entries of a file that is judged whole end within the extent, and need no more
each_end : (h : List ℕ) (n : ℕ) (s : List ℕ) (z : ℕ) → answer (in_order (judge_entry h n) n 0 (table_end n)) s ≡ ok z → (max (table_end n) (reach (in_order (judge_entry h n) n 0 (table_end n)) s) ≡ z) × (table_end n ≤ z) × ((j : ℕ) → j < n → Within h n s z (entry_of h (place_of_entry j)))
each_end h n s z w =
    let g = order_ends (judge_entry h n) s (table_end n) n 0 (table_end n) z (omega arith) (λ j y _ l o. beyond (table_end (j + 1)) (table_end n) _ y (omega arith) (entry_end h n j s y o).0) w in
    (g.0, g.1, λ j l u r. let v = g.2 j (omega arith) (omega arith) in omega (arith, (entry_end h n j s v.0 v.1).1 u r))

-- what judging has found in a whole file
whole : (s : List ℕ) (v : Extent) → answer judging s ≡ ok v → (t : Table) × (answer table s ≡ ok t) × (reach judging s ≡ v.extent) × (table_end t.count ≤ v.extent) × ((j : ℕ) → j < t.count → Within t.up_to t.count s v.extent (entry_of t.up_to (place_of_entry j)))
unfolding judging judge_table
whole s v w =
    let a = bind_ok table _ s v w in
    let t = a.0 in
    let b = bind_ok _ _ s v a.2 in
    let z : b.0 ≡ v.extent = ap (λ (x : Extent). x.extent) (done_ok _ v s b.2) in
    let f = table_reach s t a.1 in
    let g = each_end t.up_to t.count s b.0 b.1 in
    (t, a.1, simp (a.3, b.3, f, reach_done) (omega arith), omega arith, λ j l u r. omega (arith, g.2 j l u r))

-- the extent is the number of bytes that judging needs
pub extent : (s : List ℕ) (v : Extent) → answer judging s ≡ ok v → reach judging s ≡ v.extent
extent s v w = (whole s v w).2

pub lookup_under : (k : ℕ) (s : List ℕ) (v : Extent) → answer judging s ≡ ok v → reach (looking_up k) s ≤ v.extent
unfolding looking_up lookup_in lookup_listed
lookup_under k s v w =
    let x = v.extent in
    let a = whole s v w in
    reach_under x _ _ s (omega (arith, table_reach s a.0 a.1)) (λ t e.
    let q : a.0 ≡ t = ok_inj (sym a.1 ∙ e) in
    subst (λ (t : Table). reach (lookup_in t.up_to t.count k) s ≤ x) q
    (reach_under x _ _ s (reach_must_under x _ _ _ s) (λ u l.
    reach_under x _ _ s (rw (with_none_needed s a.0.up_to a.0.count k) (omega arith)) (λ d f.
    let p = with_found s a.0.up_to a.0.count k d f in
    subst (Within a.0.up_to a.0.count s x) (sym p.2) (a.4 p.0 p.1) (stored_of (listing_of k)) (ap listing_of p.3 ∙ listed_ok (listing_of k) s u l)))))

-- the data that lookup finds lie within the extent
pub found_under : (k : ℕ) (s : List ℕ) (v : Extent) → answer judging s ≡ ok v → (q : ItemData) → answer (looking_up k) s ≡ ok q → q.start + q.size ≤ v.extent
found_under k s v w q e =
    let f = lookup_within k (take v.extent s) q (answer_same (looking_up k) v.extent s (lookup_under k s v w) ∙ e) in
    let l : length (take v.extent s) ≡ min v.extent (length s) = length-take v.extent s in
    omega arith
