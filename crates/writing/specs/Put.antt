-- Writing: the bytes of numbers, and a list of bytes written over a part of another.
use Rattle.std.specs.Prelude.{ℕ, zero, suc, ◌+◌, ◌/◌, ◌%◌, ◌^◌, List, [], ◌∷◌, ◌++◌, length, get_or, take, drop, leb}
use Rattle.reading.specs.Choice.{pick}

-- the bytes of n, so many of them, highest byte first
unfoldable pub digits : ℕ → ℕ → List ℕ
digits zero n = []
digits (suc width) n = (n / 256 ^ width % 256) ∷ digits width n

-- the two bytes of each of so many numbers, from number i on
unfoldable pub words : List ℕ → ℕ → ℕ → List ℕ
words numbers zero i = []
words numbers (suc count) i = digits 2 (get_or numbers i 0) ++ words numbers count (i + 1)

-- the output with these bytes written over it from a place on; the output itself where there is no room for them
unfoldable pub put : List ℕ → ℕ → List ℕ → List ℕ
put out place bytes = pick (leb (place + length bytes) (length out)) (take place out ++ (bytes ++ drop (place + length bytes) out)) out
