-- The entry with an id, from the answers of its parts.
use Prim.Native.Nat.{ℕ, ◌<◌}
use mathlib.Core.Path.{◌≡◌, refl, sym, ◌∙◌, ap}
use mathlib.Core.List.{List}
use mathlib.Core.Bool.{true}
use native.Mathlib.Omega.{arith}
use borrow.Author.Tests.{eqb-true}
use Rattle.reading.specs.Check.{ok, answer}
use Rattle.reading.proofs.Needed.{reach}
use Rattle.reading.proofs.Steps.{reach_done}
use Rattle.reading.proofs.Passed.{bind_ok, done_ok}
use Rattle.reading.proofs.Reach.{reach_none}
use Rattle.reading.proofs.Entries.{first_has, one_ok, one_needs_none}
use Rattle.gtc.specs.declared.entry.Entry.{Entry}
use Rattle.gtc.specs.Entry.{entry_of, has_id, entry_with}
use Rattle.gtc.specs.Table.{place_of_entry}

-- the entry that is found stands in the table, and has the id
pub with_found : (l h : List ℕ) (n k : ℕ) (d : Entry) → answer (entry_with h n k) l ≡ ok d → (i : ℕ) × (i < n) × (d ≡ entry_of h (place_of_entry i)) × (d.id ≡ k)
unfolding entry_with entry_of has_id
with_found l h n k d w =
    let a = bind_ok _ _ l d w in
    let i = a.0 in
    let f = one_ok (has_id h k) n i l a.1 in
    let e = sym (done_ok _ d l a.2) in
    let g : has_id h k i ≡ true = rw f.0 at (first_has (has_id h k) n 0 (omega arith)) in
    (i, f.1, e, ap (λ (d : Entry). d.id) e ∙ eqb-true _ k g)

-- finding it needs no bytes but the table's
pub with_none_needed : (l h : List ℕ) (n k : ℕ) → reach (entry_with h n k) l ≡ 0
unfolding entry_with
with_none_needed l h n k = search (reach_none, one_needs_none, reach_done) depth 12

pub entry_place : (h : List ℕ) (p : ℕ) → (entry_of h p).place ≡ p
unfolding entry_of
entry_place h p = refl
