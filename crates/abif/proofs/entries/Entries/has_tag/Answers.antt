use Prim.Native.Nat.{◌+◌, ◌-◌, ◌*◌}
use mathlib.Core.Path.{◌∙◌}
use native.Mathlib.Omega.{arith}
use Rattle.reading.proofs.Tests.{tests}
use Rattle.reading.proofs.Width.{be_in_part, be_front}
use Rattle.abif.specs.Entry.{entry_of, has_tag}
use Rattle.abif.proofs.entries.Entries.has_tag.Goals as goal

pub returns-then-be32-name : goal.returns-then-be32-name
unfolding entry_of has_tag
returns-then-be32-name c =
    let g = c.args in
    let p = g.self.place + 28 * g.i in
    let x = c.be32.ensures ∙ be_front 4 p (p + 8 - p) g.self.bytes.now (omega arith) in
    let y = c.be32-then-be32-name.ensures ∙ be_in_part 4 p (p + 8 - p) 4 g.self.bytes.now (omega arith) in
    search (tests, ← y, ← x)

pub returns-else-be32-name : goal.returns-else-be32-name
unfolding entry_of has_tag
returns-else-be32-name c =
    let g = c.args in
    let p = g.self.place + 28 * g.i in
    let x = c.be32.ensures ∙ be_front 4 p (p + 8 - p) g.self.bytes.now (omega arith) in
    search (tests, ← x)
