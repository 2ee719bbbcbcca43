use Prim.Native.Nat.{◌+◌, ◌≤◌}
use lib.ListN.{length}
use native.Mathlib.Omega.{arith}
use Rattle.reading.proofs.Width.{le_split, le_byte, le_past, byte_le}
use Rattle.reading.proofs.number.le16.Goals as goal
use Rattle.reading.proofs.number.le16.Goals.{else-s-ge2-via-then-s-ge2+else-p-s, else-s-ge2-via-else-s-ge2}

pub returns-then-p-s : goal.returns-then-p-s
returns-then-p-s c = rw (le_split 1 1, le_byte, le_byte) (omega (arith, c.from_le_bytes.ensures))

pub returns : goal.returns
returns c =
    let g = c.args in
    let h : length g.s.now ≤ g.p + 1 = elim c.else-s-ge2.branch [ else-s-ge2-via-then-s-ge2+else-p-s w ↦ omega arith | else-s-ge2-via-else-s-ge2 w ↦ omega arith ] in
    rw (le_split 1 1, le_past 1 (g.p + 1) g.s.now h, ← byte_le) (omega arith)
