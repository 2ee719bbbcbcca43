-- The struct that each answer of document 01 is for a C program.
use Rattle.std.specs.Prelude.{ℕ, Float}
use Rattle.std.specs.Float.{binary32, binary64}
use Rattle.std.specs.Float.Ieee.{of_bits}
use Rattle.reading.specs.Check.{Answer, ok, refused}
use Rattle.reading.specs.declared.part.Span.{Span}
use Rattle.capi.specs.declared.answers.Verdict.{Verdict}
use Rattle.reading.specs.declared.item.ItemData.{ItemData}
use Rattle.capi.specs.declared.answers.Item.{Item}
use Rattle.capi.specs.declared.answers.Part.{Part}
use Rattle.capi.specs.declared.answers.Listed.{Listed}
use Rattle.capi.specs.declared.answers.Written.{Written}

-- judging's extent and tail, of a format that has no unjudged entries
abbrev pub as_verdict : Answer (ℕ × ℕ) → Verdict
as_verdict (ok v) = record { refusal = 0; entry = 0; extent = v.0; unjudged = 0; tail = v.1 }
as_verdict (refused n e) = record { refusal = n; entry = e; extent = 0; unjudged = 0; tail = 0 }

-- the item that lookup finds
abbrev pub as_item : Answer ItemData → Item
as_item (ok q) = record { refusal = 0; code = q.code; count = q.count; start = q.start; length = q.size }
as_item (refused n e) = record { refusal = n; code = 0; count = 0; start = 0; length = 0 }

-- where a part of the caller's bytes stands
abbrev pub as_part : Answer Span → Part
as_part (ok q) = record { refusal = 0; start = q.start; length = q.size }
as_part (refused n e) = record { refusal = n; start = 0; length = 0 }

-- the number of things put into the lent output
abbrev pub as_listed : Answer ℕ → Listed
as_listed (ok n) = record { refusal = 0; count = n }
as_listed (refused n e) = record { refusal = n; count = 0 }

-- the length of a file that was written
abbrev pub as_written : Answer ℕ → Written
as_written (ok n) = record { refusal = 0; length = n }
as_written (refused n e) = record { refusal = n; length = 0 }

-- 0.0
abbrev pub zero32 : Float
zero32 = of_bits binary32 0

abbrev pub zero64 : Float
zero64 = of_bits binary64 0
