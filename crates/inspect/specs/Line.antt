-- What the lines show of a byte, of a name and of a refused file.
use Rattle.std.specs.Prelude.{ℕ, ◌/◌, ◌%◌, List, [], ◌∷◌, ◌++◌, leb, codes}
use Rattle.reading.specs.declared.refusal.Refusal.{Refusal}
use Rattle.reading.specs.declared.verdict.Refused.{Refused}
use Rattle.reading.specs.Choice.{pick}
use Rattle.reading.specs.Verdict.{refused_text}

-- a byte from 32 to 126 as it is, another as a dot
abbrev pub printable_byte : ℕ → ℕ
printable_byte b = pick (leb 32 b) (pick (leb b 126) b 46) 46

-- the four bytes of a name, the highest first
abbrev pub name_text : ℕ → List ℕ
name_text n = printable_byte (n / 16777216) ∷ printable_byte (n / 65536 % 256) ∷ printable_byte (n / 256 % 256) ∷ printable_byte (n % 256) ∷ []

-- the format's word and, behind a blank, what a refused file is told by
abbrev pub refused_line : List ℕ → Refused Refusal → List ℕ
refused_line format w = format ++ (codes " " ++ refused_text w)
