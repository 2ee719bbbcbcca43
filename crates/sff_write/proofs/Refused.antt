-- The refusals of the SFF writer. P is what holds of these, at 0.
use Prim.Native.Nat.{ℕ}
use mathlib.Core.List.{List}
use Rattle.reading.proofs.Refused.{Refuses, refuses_done, refuses_must, refuses_bind, refuses_pick}
use Rattle.sff_fields.specs.declared.read.ReadHeader.{ReadHeader}
use Rattle.sff_fields.specs.Clips.{clips_check}
use Rattle.contents.specs.Steps.{steps_check}
use Rattle.sff_write.specs.declared.write.Writer.{Writer}
use Rattle.sff_write.specs.Read.{GivenRead, clips_fit, name_fits, lengths_check}
use Rattle.sff_fields.specs.Contents.{contents_check}
use Rattle.sff_write.specs.Write.{beginning, adding_fit, adding, finishing}

module _ (P : ℕ → ℕ → Type 0) (s : List ℕ) (lengths : P 9 0) where
  pub beginning_refuses : P 13 0 → (n : ℕ) (letters key : List ℕ) (room : ℕ) → Refuses P (beginning n letters key room) s
  unfolding beginning
  beginning_refuses full n letters key room = search (refuses_bind, refuses_must, refuses_done, lengths, full) depth 14

  lengths_refuses : (f : ℕ) (r : GivenRead) → Refuses P (lengths_check f r) s
  unfolding lengths_check name_fits clips_fit
  lengths_refuses f r = search (refuses_bind, refuses_must, lengths) depth 20 fits 3000

  contents_refuses : P 11 0 → (d : ReadHeader) (f : ℕ) (steps : List ℕ) → Refuses P (contents_check d f steps) s
  unfolding contents_check clips_check steps_check
  contents_refuses value d f steps = search (refuses_bind, refuses_must, refuses_pick, refuses_done, value) depth 14

  pub adding_refuses : P 11 0 → P 13 0 → (w : Writer) (r : GivenRead) (room : ℕ) → Refuses P (adding w r room) s
  unfolding adding adding_fit
  adding_refuses value full w r room = search (refuses_bind, refuses_must, refuses_done, lengths_refuses, contents_refuses, lengths, value, full) depth 14

  pub finishing_refuses : (w : Writer) → Refuses P (finishing w) s
  unfolding finishing
  finishing_refuses w = search (refuses_bind, refuses_must, refuses_done, lengths) depth 14
