-- Demand 1: every call ends with an answer or with one refusal of document 01's table, and a refused call changes nothing that it was lent. No call asks
-- anything of its caller, and that each ends is part of its proof; so what is left to say is what is seen then.
use Rattle.std.specs.Prelude.{ℕ, ◌≡◌, true, []}
use Rattle.reading.specs.Choice.{among}
use Rattle.reading.specs.Check.{ok, refused, answer}
use Rattle.reading.specs.Part.{Part}
use Rattle.promises.specs.Refusals.{refusals}
use Rattle.promises.specs.Format.{Format}
use Rattle.promises.specs.Seen.{seen, refusal}
use Rattle.promises.specs.Formats.{Name, format_of}
use Rattle.promises.specs.Writing.{Writing, call}

-- A reading call shows an answer; or a refusal of the table, reported at 0 unless the call is judging, with the empty part at the file's start and the
-- lent list as it was.
pub data Ends (f : Format) (c : f.Call) (file : Part) : Type 0 where
  answers : (v : (f.call c).Value) → answer (f.call c).checks file.bytes ≡ ok v → Ends f c file
  refuses : (n e : ℕ) → among n refusals ≡ true → ((c ≡ f.judging → ⊥) → e ≡ 0) → seen f c file ≡ refusal f c file n e → Ends f c file

-- A writer's call answers; or it is refused with a number of the table, and its output holds what it held.
pub data WritingEnds (c : Writing) : Type 0 where
  writes : (v : (call c).Value) → answer (call c).checks [] ≡ ok v → WritingEnds c
  refuses_writing :
      (n : ℕ)
      → among n refusals ≡ true
      → answer (call c).checks [] ≡ refused n 0
      → (call c).after (refused n 0) ≡ (call c).lent
      → WritingEnds c

-- so it is of every call, whatever it is lent
pub record Demand1 : Type 0 where
  pub reading : (n : Name) (c : (format_of n).Call) (file : Part) → Ends (format_of n) c file
  pub writing : (c : Writing) → WritingEnds c
