-- Lookup, from the answers of its parts.
use Prim.Native.Nat.{ℕ, ◌+◌, ◌≤◌}
use mathlib.Core.Path.{◌≡◌, refl, sym, ◌∙◌, ap}
use mathlib.Core.List.{List}
use mathlib.Core.Bool.{false}
use native.Mathlib.Omega.{arith}
use lib.ListN.{length}
use Rattle.reading.specs.Check.{ok, refused, answer, holds, provided}
use Rattle.reading.proofs.Steps.{answer_bind, answer_must}
use Rattle.reading.proofs.Passed.{bind_ok, not_ok}
use Rattle.gtc.specs.declared.entry.Entry.{Entry}
use Rattle.gtc.specs.declared.item.Stored.{Stored}
use Rattle.std.specs.Prelude.{Option}
use Rattle.std.specs.Prelude.{Some, None}
use Rattle.reading.specs.declared.item.ItemData.{ItemData}
use Rattle.gtc.specs.Table.{table_end, table}
use Rattle.gtc.specs.Entry.{entry_with}
use Rattle.gtc.specs.Item.{listing_of, is_listed}
use Rattle.gtc.specs.Lookup.{stored_of, lookup_listed, lookup_in, looking_up}
use Rattle.gtc.proofs.table.Laws.{table_found}
use Rattle.gtc.proofs.entry.Laws.{with_found, entry_place}
use Rattle.gtc.proofs.item.Laws.{item_within}

-- a listed id goes on to its entry, an unlisted one is 10
module _ (s h : List ℕ) (n k : ℕ) where
  pub in_listed : (v : Stored) → listing_of k ≡ Some v → answer (lookup_listed v h n k) s ≡ answer (lookup_in h n k) s
  unfolding lookup_in holds
  in_listed v e = rw e (simp (answer_bind, answer_must))

  pub in_unlisted : listing_of k ≡ None → refused 10 0 ≡ answer (lookup_in h n k) s
  unfolding lookup_in holds
  in_unlisted e = rw e (simp (answer_bind, answer_must))

-- an id that is looked up is listed
pub listed_ok : (l : Option Stored) (s : List ℕ) (u : Unit {0}) → answer (provided (is_listed l) 10) s ≡ ok u → l ≡ Some (stored_of l)
unfolding holds
listed_ok (Some v) s u w = refl
listed_ok None s u w =
    let z : answer (provided false 10) s ≡ refused 10 0 = simp answer_must in
    absurd (not_ok (sym z ∙ w))

-- the entry that is found ends within the table
pub found_place : (l h : List ℕ) (n k : ℕ) (d : Entry) → answer (entry_with h n k) l ≡ ok d → d.place + 6 ≤ table_end n
found_place l h n k d w =
    let f = with_found l h n k d w in
    let e : d.place ≡ _ = ap (λ (d : Entry). d.place) f.2 ∙ entry_place h _ in
    omega arith

-- the data that lookup finds lie within the file
pub lookup_within : (k : ℕ) (s : List ℕ) (q : ItemData) → answer (looking_up k) s ≡ ok q → q.start + q.size ≤ length s
unfolding looking_up lookup_in lookup_listed
lookup_within k s q w =
    let t = bind_ok table _ s q w in
    let a = bind_ok (provided (is_listed (listing_of k)) 10) _ s q t.2 in
    let b = bind_ok _ _ s q a.2 in
    let f = table_found s t.0 t.1 in
    let p = found_place s t.0.up_to t.0.count k b.0 b.1 in
    let i = item_within (stored_of (listing_of k)) t.0.up_to t.0.count b.0 s q b.2 in
    omega arith
