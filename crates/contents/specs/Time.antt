-- The rule of a time.
use Rattle.std.specs.Prelude.{ℕ, Bool, false, leb}
use Rattle.reading.specs.Choice.{pick}

-- hour 0 to 23, minute and second 0 to 59, hundredth 0 to 99
unfoldable pub is_time : ℕ → ℕ → ℕ → ℕ → Bool
is_time hour minute second hundredth =
    pick (leb hour 23)
    (pick (leb minute 59)
    (pick (leb second 59)
    (leb hundredth 99)
    false) false) false
