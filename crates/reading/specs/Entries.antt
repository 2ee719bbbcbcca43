-- The entries of a directory or of a table of contents, by their numbers, counted from 0: the one that passes a test, and the checks of all in order.
use Rattle.std.specs.Prelude.{ℕ, zero, suc, ◌+◌, ◌-◌, max, Bool, ltb, eqb}
use Rattle.reading.specs.Choice.{pick}
use Rattle.reading.specs.Check.{Check, done, provided, at, ◌>>=◌, ◌>>◌}

-- the first of the n entries from entry i on that passes the test, or the number past the last one
unfoldable pub first_with : (ℕ → Bool) → ℕ → ℕ → ℕ
first_with f zero i = i
first_with f (suc n) i = pick (f i) i (first_with f n (i + 1))

-- one of the first n entries passes the test
abbrev pub some_with : (ℕ → Bool) → ℕ → Bool
some_with f n = ltb (first_with f n 0) n

-- the entry of n that passes the test: no entry 7, two or more 8
unfoldable pub one_with : (ℕ → Bool) → ℕ → Check ℕ
one_with f n =
    let i = first_with f n 0 in
    do
      provided (ltb i n) 7
      provided (eqb (first_with f (n - (i + 1)) (i + 1)) n) 8
      done i

-- the checks of n entries from entry i on, in order, each reported by its number from one; each answers an end, and together they answer the largest of
-- x and these ends
unfoldable pub in_order : (ℕ → Check ℕ) → ℕ → ℕ → ℕ → Check ℕ
in_order t zero i x = done x
in_order t (suc n) i x = do
  y ← at (i + 1) (t i)
  in_order t n (i + 1) (max x y)
