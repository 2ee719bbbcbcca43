use Prim.Native.Nat.{ℕ, zero, suc, ◌/◌, ◌%◌, ◌<◌}
use mathlib.Core.Path.{◌≡◌, refl}
use mathlib.Core.Bool.{Bool, true, false}
use native.Mathlib.Omega.{arith}
use lib.Dec.{leb}
use borrow.Author.Tests.{leb-true}
use Rattle.std.proofs.Common.{rules}
use Rattle.std.proofs.lemmas.Str.{IsUtf8-from_ascii}
use Rattle.std.specs.Str.{IsAscii}
use Rattle.reading.specs.Choice.{pick}
use Rattle.inspect.specs.Line.{printable_byte, name_text}
use Rattle.inspect.proofs.line.name_text.Goals as goal

-- what shows is ASCII
printable_ascii : (b : ℕ) → printable_byte b < 128
printable_ascii b = go (leb 32 b) (leb b 126) refl
  where
    go : (low high : Bool) → leb b 126 ≡ high → pick low (pick high b 46) 46 < 128
    go true true h = omega (arith, leb-true b 126 h)
    go true false h = omega arith
    go false high h = omega arith

name_ascii : (n : ℕ) → IsAscii (name_text n)
name_ascii n zero = printable_ascii (n / 16777216)
name_ascii n (suc zero) = printable_ascii (n / 65536 % 256)
name_ascii n (suc (suc zero)) = printable_ascii (n / 256 % 256)
name_ascii n (suc (suc (suc zero))) = printable_ascii (n % 256)
name_ascii n (suc (suc (suc (suc i)))) = omega arith

pub returns-clause-utf8 : goal.returns-clause-utf8
returns-clause-utf8 c = search (rules, IsUtf8-from_ascii, name_ascii)
