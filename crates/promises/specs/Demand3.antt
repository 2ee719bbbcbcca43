-- Demand 3, whole: cutting a file never changes an answer except to refusal 1, and a whole file stays whole down to its extent; from there on everything
-- is the same but the tail, which is the length less the extent. It speaks of every reading call of every format.
use Rattle.std.specs.Prelude.{ℕ, ◌-◌, ◌≤◌, ◌<◌, ◌≡◌, ◌⊎◌, length}
use Rattle.reading.specs.Check.{ok, answer}
use Rattle.reading.specs.Part.{Part, cut_to}
use Rattle.promises.specs.Format.{Format}
use Rattle.promises.specs.Seen.{seen, refusal, tail_seen}
use Rattle.promises.specs.Formats.{Name, format_of}

module _ (f : Format) where
  -- a call is refused with 1, at some entry
  abbrev pub CutShort : (c : f.Call) → Part → Type 0
  CutShort c file = (e : ℕ) × (seen f c file ≡ refusal f c file 1 e)

  -- what judging answers
  abbrev pub Judged : Type 0
  Judged = (f.call f.judging).Value

  -- judging refuses nothing, and answers v
  abbrev pub JudgedWhole : Part → Judged → Type 0
  JudgedWhole file v = answer (f.call f.judging).checks file.bytes ≡ ok v

  pub record Holds : Type 0 where
    -- a cut is refused with 1, or shows all that the file shows but the tail
    pub cut : (c : f.Call) (file : Part) (n : ℕ) → CutShort c (cut_to n file) ⊎ (seen f c (cut_to n file) ≡ seen f c file)
    -- the extent of a whole file lies within it
    pub within : (file : Part) (v : Judged) → JudgedWhole file v → f.extent v ≤ length file.bytes
    -- below the extent judging refuses with 1
    pub below : (file : Part) (v : Judged) → JudgedWhole file v → (n : ℕ) → n < f.extent v → CutShort f.judging (cut_to n file)
    -- from the extent on every call, judging among them, shows all that it shows on the file but the tail
    pub from :
        (file : Part) (v : Judged)
        → JudgedWhole file v
        → (n : ℕ)
        → f.extent v ≤ n
        → (c : f.Call)
        → seen f c (cut_to n file) ≡ seen f c file
    -- and the tail of each cut is its length less the extent, which below the extent is 0
    pub tail : (file : Part) (v : Judged) → JudgedWhole file v → (n : ℕ) → tail_seen f (cut_to n file) ≡ length (cut_to n file).bytes - f.extent v

-- it holds of every format
abbrev pub Demand3 : Type 0
Demand3 = (n : Name) → Holds (format_of n)
