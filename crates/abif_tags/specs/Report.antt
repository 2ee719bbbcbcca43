-- ABIF: the check of a file's tags against a profile.
use Rattle.std.specs.Prelude.{ℕ, ◌+◌, ◌*◌, List, [], ◌∷◌, ◌++◌, map, leb, ltb, ℤ, pos, length}
use Rattle.reading.specs.Choice.{pick, is_number_of}
use Rattle.reading.specs.Check.{Check, done, provided, at, ◌>>=◌, ◌>>◌}
use Rattle.abif.specs.declared.entry.Entry.{Entry}
use Rattle.abif.specs.declared.tag.Tag.{Tag}
use Rattle.abif.specs.Tag.{tag_of, tag_below}
use Rattle.abif.specs.Entry.{entry_of}
use Rattle.abif.specs.Directory.{Directory, directory}
use Rattle.abif.specs.Judge.{judging}
use Rattle.abif_tags.specs.declared.table.Row.{Row}
use Rattle.abif_tags.specs.Table.{profile_count, table, row_count, row_in, row_at, row_for, is_required, agrees}
use Rattle.abif_tags.specs.Order.{tag_at, in_tag_order}

-- what is found of a tag
pub record Finding : Type 0 where
  pub tag : Tag
  pub kind : ℕ

-- the profile requires the tag, and the file does not have it
abbrev pub missing : Tag → Finding
missing tag = record { tag = tag; kind = 1 }

-- the file has it with another type
abbrev pub other_type : Tag → Finding
other_type tag = record { tag = tag; kind = 2 }

-- the file has it, and the profile does not
abbrev pub not_in_profile : Tag → Finding
not_in_profile tag = record { tag = tag; kind = 3 }

-- what is found of the tag that an entry of the file has
unfoldable pub of_entry : ℕ → Entry → List Finding
of_entry profile entry =
    let k = row_for profile (tag_of entry) in
    pick (ltb k row_count)
    (pick (agrees (row_at profile k).published entry.element_type entry.element_count) [] (other_type (tag_of entry) ∷ []))
    (not_in_profile (tag_of entry) ∷ [])

-- The findings in tag order, of the directory at this place: its entries and the profile's rows, both in tag order, go by side by side.
module _ (profile : ℕ) (bytes : List ℕ) (place : ℕ) where
  -- of these entries
  unfoldable pub of_entries : List ℕ → List Finding
  of_entries [] = []
  of_entries (i ∷ is) = of_entry profile (entry_of bytes (place + 28 * i)) ++ of_entries is

  -- up to a row whose first tag is required: the entries below it, then the entry that has the tag, or that it is missing, then what follows
  unfoldable pub up_to_row : Row → (List ℕ → List Finding) → List ℕ → List Finding
  up_to_row row rest [] = missing row.first ∷ rest []
  up_to_row row rest (i ∷ is) =
      pick (tag_below (tag_at bytes place i) row.first)
      (of_entry profile (entry_of bytes (place + 28 * i)) ++ up_to_row row rest is)
      (pick (tag_below row.first (tag_at bytes place i))
      (missing row.first ∷ rest (i ∷ is))
      (of_entry profile (entry_of bytes (place + 28 * i)) ++ rest is))

  -- of these entries beside these rows
  unfoldable pub side_by_side : List Row → List ℕ → List Finding
  side_by_side [] is = of_entries is
  side_by_side (row ∷ rows) is = pick (is_required row.presence) (up_to_row row (side_by_side rows) is) (side_by_side rows is)

-- the report of a file with this directory against a profile
unfoldable pub report : ℕ → Directory → List Finding
report profile d = side_by_side profile d.up_to d.place (map (row_in profile) table) (in_tag_order d.up_to d.place d.count)

-- a finding's numbers, three of them: the tag's name and number, and what is found
abbrev pub finding_width : ℕ
finding_width = 3

abbrev pub finding_numbers : List Finding → List ℤ
finding_numbers [] = []
finding_numbers (f ∷ fs) = pos f.tag.name ∷ f.tag.number ∷ pos f.kind ∷ finding_numbers fs

-- a list too short for the report 13
unfoldable pub reporting : ℕ → ℕ → Directory → Check (List Finding)
reporting profile room d = do
  provided (leb (finding_width * length (report profile d)) room) 13
  done (report profile d)

-- an unknown profile 10
unfoldable pub checking_whole : ℕ → ℕ → Check (List Finding)
checking_whole profile room = do
  provided (is_number_of profile profile_count) 10
  d ← directory
  reporting profile room d

-- the refusals of judging first, by the number alone
unfoldable pub checking_tags : ℕ → ℕ → Check (List Finding)
checking_tags profile room = do
  _ ← at 0 judging
  checking_whole profile room
