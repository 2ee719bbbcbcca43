-- Demand 1 for the writers.
use Prim.Native.Nat.{ℕ}
use mathlib.Core.Path.{◌≡◌, refl}
use mathlib.Core.List.{[]}
use lib.ListN.{length}
use Rattle.reading.specs.Check.{Answer, ok, refused, answer}
use Rattle.reading.proofs.Refused.{Refuses}
use Rattle.abif_write.proofs.Refused.{writing_refuses}
use Rattle.sff_write.proofs.Refused.{beginning_refuses, adding_refuses, finishing_refuses}
use Rattle.promises.specs.Writing.{Writing, abif, begin, add, finish, call}
use Rattle.promises.specs.Demand1.{WritingEnds, writes, refuses_writing}
use Rattle.promises.proofs.Ends.{AtNone}

refuses : (c : Writing) → Refuses AtNone (call c).checks []
refuses (abif r buffer out) = writing_refuses AtNone [] (refl, refl) (refl, refl) (refl, refl) (refl, refl) (refl, refl) (refl, refl) r.names r.numbers r.types r.counts r.starts r.lengths buffer (length out)
refuses (begin n letters key out) = beginning_refuses AtNone [] (refl, refl) (refl, refl) n letters key (length out)
refuses (add w r out) = adding_refuses AtNone [] (refl, refl) (refl, refl) (refl, refl) w r (length out)
refuses (finish w) = finishing_refuses AtNone [] (refl, refl) w

-- a refusal leaves the output as it was
unchanged : (c : Writing) (n : ℕ) → (call c).after (refused n 0) ≡ (call c).lent
unchanged (abif r buffer out) n = refl
unchanged (begin m letters key out) n = refl
unchanged (add w r out) n = refl
unchanged (finish w) n = refl

pub writing_ends : (c : Writing) → WritingEnds c
writing_ends c = go (answer (call c).checks []) refl
  where
    go : (r : Answer (call c).Value) → answer (call c).checks [] ≡ r → WritingEnds c
    go (ok v) q = writes v q
    go (refused n e) q =
        let p = (refuses c).told n e q in
        refuses_writing n p.0 (rw p.1 at q) (unchanged c n)
