-- What the input is: too long, or told by the mark at its front.
use Rattle.std.specs.Prelude.{ℕ, List, leb, eqb, length}
use Rattle.reading.specs.Choice.{pick}
use Rattle.reading.specs.Number.{be}
use Rattle.inspect.specs.declared.input.Input.{Input}
use Rattle.inspect.specs.declared.input.Input.TheVariants.{TooLong, Unknown, Abif, Sff, Gtc}

-- "ABIF", ".sff" or "gtc" at the front, else unknown
abbrev pub marked : List ℕ → Input
marked s =
    pick (eqb (be 4 s 0) 0x41424946) Abif
    (pick (eqb (be 4 s 0) 0x2e736666) Sff
    (pick (eqb (be 3 s 0) 0x677463) Gtc
    Unknown))

abbrev pub input_of : List ℕ → Input
input_of s = pick (leb (length s) 65536) (marked s) TooLong
