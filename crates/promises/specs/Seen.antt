-- All that a caller sees of a reading call; and the tail, which judging alone tells.
use Rattle.std.specs.Prelude.{ℕ, List}
use Rattle.reading.specs.Check.{Answer, refused, map_answer, answer}
use Rattle.reading.specs.Verdict.{verdict_of, tail_of}
use Rattle.reading.specs.Part.{Part, no_part, handed_back}
use Rattle.reading.specs.Lent.{filled}
use Rattle.promises.specs.Format.{Format}

module _ (f : Format) where
  -- its answer without the tail, the part handed back, and what the lent list then holds
  pub record Seen (c : f.Call) : Type 0 where
    pub answers : Answer (f.call c).Value
    pub part : Part
    pub list : List (f.call c).Record

  abbrev pub seen : (c : f.Call) → Part → Seen c
  seen c file =
      let r = answer (f.call c).checks file.bytes in
      record { answers = r; part = handed_back file (map_answer (f.call c).span r); list = filled (map_answer (f.call c).writes r) (f.call c).lent }

  -- refusal n, reported at entry e: the empty part at the file's start, and the lent list as it was
  abbrev pub refusal : (c : f.Call) → Part → ℕ → ℕ → Seen c
  refusal c file n e = record { answers = refused n e; part = no_part file; list = (f.call c).lent }

  -- the tail that judging tells of the file
  abbrev pub tail_seen : Part → ℕ
  tail_seen file = tail_of (verdict_of (f.call f.judging).checks f.extent file.bytes)
