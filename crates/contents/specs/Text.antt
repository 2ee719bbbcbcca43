-- The rules of texts.
use Rattle.std.specs.Prelude.{ℕ, zero, suc, ◌+◌, ◌-◌, List, Bool, true, false, not, leb, eqb, length, get_or}
use Rattle.reading.specs.Choice.{pick}
use Rattle.reading.specs.Number.{be}

-- one of the n bytes from place p on is zero
unfoldable pub zero_among : List ℕ → ℕ → ℕ → Bool
zero_among bytes p zero = false
zero_among bytes p (suc n) = pick (eqb (get_or bytes p 0) 0) true (zero_among bytes (p + 1) n)

-- a pString needs a first byte equal to data size - 1; size 0 is none
unfoldable pub is_pstring : List ℕ → Bool
is_pstring bytes =
    pick (leb 1 (length bytes))
    (eqb (be 1 bytes 0) (length bytes - 1))
    false

-- a cString needs a zero as its last byte and nowhere else; size 0 is none
unfoldable pub is_cstring : List ℕ → Bool
is_cstring bytes =
    pick (leb 1 (length bytes))
    (pick (eqb (be 1 bytes (length bytes - 1)) 0)
    (not (zero_among bytes 0 (length bytes - 1)))
    false) false
