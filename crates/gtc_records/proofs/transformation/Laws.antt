-- The transformations, from the answers of their parts.
use Prim.Native.Nat.{ℕ, ◌+◌, ◌≤◌}
use mathlib.Core.Path.{◌≡◌, refl, subst}
use mathlib.Core.List.{List}
use native.Mathlib.Omega.{arith}
use lib.ListN.{length}
use Rattle.reading.specs.Check.{ok, answer, holds}
use Rattle.reading.proofs.Passed.{bind_ok, done_ok, must_ok}
use Rattle.reading.proofs.Tests.{number_within}
use Rattle.gtc.specs.Item.{listing_of, normalization_transformations_id}
use Rattle.gtc.specs.Lookup.{looking_up}
use Rattle.gtc_records.specs.declared.transformation.Transformed.{Transformed}
use Rattle.gtc_records.specs.Transformation.{transformation_size, transformation_of, transformation_reading}
use Rattle.gtc.proofs.Arrays.{array_sized}
use Rattle.gtc.proofs.lookup.Laws.{lookup_within}

-- the 52 bytes of a transformation are there
pub reading_within : (k : ℕ) (s : List ℕ) (t : Transformed) → answer (transformation_reading k) s ≡ ok t → t.start + transformation_size ≤ length s
unfolding transformation_reading transformation_of listing_of holds
reading_within k s t w =
    let q = bind_ok (looking_up normalization_transformations_id) _ s t w in
    let a = bind_ok _ _ s t q.2 in
    let b = bind_ok _ _ s t a.2 in
    let n = number_within k q.0.count (must_ok _ _ _ s a.0 a.1) in
    let z = array_sized normalization_transformations_id transformation_size s q.0 refl q.1 in
    let l = lookup_within normalization_transformations_id s q.0 q.1 in
    subst (λ (x : Transformed). x.start + transformation_size ≤ length s) (done_ok _ t s b.2) (omega arith)
