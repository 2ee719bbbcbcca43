-- What the check of tags needs: no more than judging.
use Prim.Native.Nat.{ℕ, ◌≤◌}
use mathlib.Core.Path.{◌≡◌}
use mathlib.Core.List.{List}
use native.Mathlib.Omega.{arith}
use Rattle.reading.specs.Check.{ok, answer}
use Rattle.reading.proofs.Needed.{reach}
use Rattle.reading.proofs.Steps.{reach_at}
use Rattle.reading.proofs.Reach.{reach_under, reach_must_under, reach_done_under}
use Rattle.abif.specs.Judge.{judging}
use Rattle.abif.proofs.Reach.{extent, directory_under}
use Rattle.abif_tags.specs.Report.{reporting, checking_whole, checking_tags}

pub tags_under : (profile room : ℕ) (s : List ℕ) (x : ℕ) → answer judging s ≡ ok x → reach (checking_tags profile room) s ≤ x
unfolding checking_tags checking_whole reporting
tags_under profile room s x w =
    reach_under x _ _ s (rw (reach_at 0 judging s) (omega (arith, extent s x w))) (λ _ _.
    reach_under x _ _ s (reach_must_under x _ _ _ s) (λ _ _.
    reach_under x _ _ s (directory_under s x w) (λ d _.
    reach_under x _ _ s (reach_must_under x _ _ _ s) (λ _ _. reach_done_under x _ s))))
