-- The rule of a date.
use Rattle.std.specs.Prelude.{ℕ, Bool, false, leb, ℤ}
use Rattle.reading.specs.Choice.{pick}

-- month 1 to 12, day 1 to 31; the year may be any
unfoldable pub is_date : ℤ → ℕ → ℕ → Bool
is_date year month day =
    pick (leb 1 month)
    (pick (leb month 12)
    (pick (leb 1 day)
    (leb day 31)
    false) false) false
