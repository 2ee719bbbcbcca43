use Rattle.std.proofs.Common.{◌≡◌, ◌+◌, ◌*◌, arith}
use Rattle.reading.specs.Number.{be}
use Rattle.reading.proofs.Width.{be_split}
use Rattle.inspect.proofs.input.first_three.Goals as goal

pub returns : goal.returns
returns c =
    let l = c.args.s.now in
    let e : be 3 l 0 ≡ be 1 l 2 + be 2 l 0 * 256 = be_split 1 2 l 0 in
    omega (arith, e, c.byte.ensures, c.be16.ensures)
