use mathlib.Core.Path.{◌∙◌, ap}
use native.Mathlib.Omega.{arith}
use lib.ListN.{replicate, length-replicate, length-take, length-drop}
use Prim.Native.Nat.{ℕ}
use Rattle.writing.proofs.Over.{put_none, part_put}
use Rattle.writing.proofs.bytes.put_zeros.Goals as goal

pub returns-then-out-n : goal.returns-then-out-n
returns-then-out-n c = put_none _ _ _ (simp length-replicate (omega arith))

pub returns : goal.returns
returns c =
    part_put _ _ _ _ _ (c.fill.ensures.after (λ y e. e) ∙ ap (λ (n : ℕ). replicate n 0) (simp (length-take, length-drop) (omega arith))) (simp length-replicate (omega arith)) (simp length-replicate (omega arith))
