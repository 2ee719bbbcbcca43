use Prim.Native.Nat.{◌+◌, ◌-◌}
use mathlib.Core.Path.{◌∙◌}
use native.Mathlib.Omega.{arith}
use Rattle.reading.proofs.Width.{le_in_part, le_front}
use Rattle.gtc.specs.Entry.{entry_of}
use Rattle.gtc.proofs.table.Table.entry_at.Goals as goal

pub returns : goal.returns
unfolding entry_of
returns c =
    let h = c.args.self.up_to.now in
    let p = c.entry_place-start.result in
    let i = c.le16.ensures ∙ le_front 2 p (p + 6 - p) h (omega arith) in
    let o = c.le32.ensures ∙ le_in_part 4 p (p + 6 - p) 2 h (omega arith) in
    rw (i, o, c.entry_place-start.ensures)
