-- ABIF: what the contents of an item must be. Dates, times and texts have rules, which the reading calls share.
use Rattle.std.specs.Prelude.{ℕ, zero, suc, ◌+◌, ◌*◌, List, Bool, true, false, eqb}
use Rattle.reading.specs.Choice.{pick}
use Rattle.reading.specs.Number.{be, signed}
use Rattle.contents.specs.Date.{is_date}
use Rattle.contents.specs.Time.{is_time}
use Rattle.contents.specs.Text.{is_pstring, is_cstring}

-- a date stands at place p: year, month, day
abbrev pub is_date_at : List ℕ → ℕ → Bool
is_date_at bytes p = is_date (signed 2 (be 2 bytes p)) (be 1 bytes (p + 2)) (be 1 bytes (p + 3))

-- a time stands at place p: hour, minute, second, hundredth
abbrev pub is_time_at : List ℕ → ℕ → Bool
is_time_at bytes p = is_time (be 1 bytes p) (be 1 bytes (p + 1)) (be 1 bytes (p + 2)) (be 1 bytes (p + 3))

-- the rule holds at each of n elements of 4 bytes, from element i on, counted from 0
unfoldable pub each_element : (ℕ → Bool) → ℕ → ℕ → Bool
each_element rule zero i = true
each_element rule (suc n) i = pick (rule (4 * i)) (each_element rule n (i + 1)) false

-- text or date or time rules, of the bytes of an item of this type and count
unfoldable pub contents_hold : ℕ → ℕ → List ℕ → Bool
contents_hold code count bytes =
    pick (eqb code 10) (each_element (is_date_at bytes) count 0)  -- date
    (pick (eqb code 11) (each_element (is_time_at bytes) count 0)  -- time
    (pick (eqb code 18) (is_pstring bytes)  -- pString
    (pick (eqb code 19) (is_cstring bytes)  -- cString
    -- other types have no rule
    true)))
