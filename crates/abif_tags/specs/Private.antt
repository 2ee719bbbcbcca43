-- What private functions ask of their callers. No public call's contract cites this.
use Rattle.std.specs.Prelude.{ℕ, ◌≡◌, ◌≤◌, ◌<◌, List, [], ◌∷◌, map, Bool, true, false, pos, eqb, leb, ltb, get_or, drop, Option, Some, None}
use Rattle.std.specs.Int.{from_be_bytes, w32}
use Rattle.reading.specs.Choice.{pick}
use Rattle.abif_tags.specs.declared.table.Presence.{Presence}
use Rattle.abif_tags.specs.declared.table.Presence.TheVariants.{Absent, Required, Optional}
use Rattle.abif_tags.specs.declared.table.PrintedRow.{PrintedRow}
use Rattle.abif_tags.specs.declared.table.PrintedRow.TheVariants.{One, Many}
use Rattle.abif_tags.specs.declared.table.Row.{Row}
use Rattle.abif_tags.specs.declared.order.Tagged.{Tagged}
use Rattle.abif_tags.specs.declared.finding.Finding as code
use Rattle.abif_tags.specs.declared.report.SideBySide.{SideBySide}
use Rattle.abif_tags.specs.Kind.{kind_number}
use Rattle.abif_tags.specs.Order.{tag_at}
use Rattle.abif_tags.specs.Report.{Finding, side_by_side}
use Rattle.abif_tags.specs.Table.{row_in, TableRow, table, no_row, row_count, row_at}

-- a letter of the code's table: R, O or N
abbrev pub presence_of : ℕ → Presence
presence_of letter = pick (eqb letter 82) Required (pick (eqb letter 79) Optional Absent)

-- a row of the code's table as the definition has it
abbrev pub as_defined : PrintedRow → TableRow
as_defined (One name number published letters) =
    record { first = record { name = from_be_bytes w32 name; number = number }; many = false; published = published; presences = map presence_of letters }
as_defined (Many name published letters) =
    record { first = record { name = from_be_bytes w32 name; number = pos 1 }; many = true; published = published; presences = map presence_of letters }

-- of the first n a test holds from r on, and not below it
pub record Parted (f : ℕ → Bool) (n r : ℕ) : Type 0 where
  pub within : r ≤ n
  pub below : (k : ℕ) → k < r → f k ≡ false
  pub from : (k : ℕ) → r ≤ k → k < n → f k ≡ true

-- the name of row k is not below this one
unfoldable pub name_reached : ℕ → ℕ → Bool
name_reached name k = leb name (get_or table k no_row).first.name

-- row k of a profile, where there is one
abbrev pub row_if : ℕ → ℕ → Option Row
row_if profile k = pick (ltb k row_count) (Some (row_at profile k)) None

-- a finding of the code as the definition has it
abbrev pub finding_of : code.Finding → Finding
finding_of f = record { tag = f.tag; kind = kind_number f.kind }

-- what the code has found of a tag
abbrev pub told : Option code.Finding → List Finding
told None = []
told (Some f) = finding_of f ∷ []

-- entry i, counted from 0, of the directory at this place, as the code sorts it
abbrev pub tagged : List ℕ → ℕ → ℕ → Tagged
tagged bytes place i = record { tag = tag_at bytes place i; entry = i }

-- the findings from the entry at place i of the order and from row j on
abbrev pub left : SideBySide → ℕ → ℕ → List Finding
left s i j =
    side_by_side s.profile.number s.bytes.now s.place (drop j (map (row_in s.profile.number) table)) (drop i (map (λ t. t.entry) s.order.now))
