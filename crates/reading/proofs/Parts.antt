-- A part that lies within a beginning of the bytes is the same part of them: the same place, the same bytes.
use Prim.Native.Nat.{ℕ, zero, suc, ◌+◌, ◌≤◌}
use mathlib.Core.Path.{◌≡◌, refl, ap}
use mathlib.Core.List.{List, [], ◌∷◌}
use native.Mathlib.Omega.{arith}
use lib.ListN.{length, take, drop}
use borrow.Author.Tests.{le-leb}
use lib.Seq.{take-take}
use Rattle.reading.specs.Check.{Answer, ok, refused}
use Rattle.reading.specs.Part.{Part, part_of, part_within, cut_to, Span, handed_back}

kept_part : (a n m : ℕ) (l : List ℕ) → a + n ≤ m → take n (drop a (take m l)) ≡ take n (drop a l)
kept_part zero n m l h = take-take n m l (omega arith)
kept_part (suc a) n zero l h = absurd (omega arith)
kept_part (suc a) n (suc m) [] h = refl
kept_part (suc a) n (suc m) (x ∷ l) h = kept_part a n m l (omega arith)

-- a part that is there
pub part_there : (p : Part) (a n : ℕ) → a + n ≤ length p.bytes → part_within p a n ≡ part_of p a n
part_there p a n h = rw (le-leb (a + n) (length p.bytes) h)

pub part_kept : (p : Part) (a n m : ℕ) → a + n ≤ m → part_of (cut_to m p) a n ≡ part_of p a n
part_kept p a n m h = ap (λ (l : List ℕ). record { place = (p.place.0, a + p.place.1); bytes = l }) (kept_part a n m p.bytes h)

-- so is the part that a call hands back, where it lies within the cut
pub handed_kept : (p : Part) (n : ℕ) (r : Answer Span) → ((q : Span) → r ≡ ok q → q.start + q.size ≤ n) → handed_back (cut_to n p) r ≡ handed_back p r
handed_kept p n (ok q) h = part_kept p q.start q.size n (h q refl)
handed_kept p n (refused k e) h = part_kept p 0 0 n (omega arith)
