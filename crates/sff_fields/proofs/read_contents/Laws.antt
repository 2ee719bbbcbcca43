-- The contents of a read, from what the clips and the steps answer.
use Prim.Native.Nat.{ℕ}
use mathlib.Core.Path.{◌≡◌}
use mathlib.Core.List.{List}
use mathlib.Core.Bool.{Bool, true, false}
use lib.ListN.{length}
use Rattle.reading.specs.Choice.{pick}
use Rattle.reading.specs.Check.{ok, refused, answer}
use Rattle.reading.proofs.Steps.{answer_bind}
use Rattle.contents.specs.Steps.{steps_check}
use Rattle.sff_fields.specs.declared.read.ReadHeader.{ReadHeader}
use Rattle.sff_fields.specs.Clips.{clips_check}
use Rattle.sff_fields.specs.Contents.{contents_check}

module _ (d : ReadHeader) (f : ℕ) (steps l : List ℕ) (a : Bool) (q : pick a (ok tt) (refused 11 0) ≡ answer (clips_check d) l) where
  pub contents_clips : a ≡ false → refused 11 0 ≡ answer (contents_check d f steps) l
  unfolding contents_check
  contents_clips h = simp (answer_bind, ← q, h)

  pub contents_steps : (b : Bool) → pick b (ok tt) (refused 11 0) ≡ answer (steps_check f steps 0 (length steps)) l → a ≡ true → pick b (ok tt) (refused 11 0) ≡ answer (contents_check d f steps) l
  unfolding contents_check
  contents_steps b u h = simp (answer_bind, ← q, h) u
