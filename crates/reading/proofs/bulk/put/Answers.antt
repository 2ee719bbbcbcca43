use mathlib.Core.Path.{◌≡◌, sym, ◌∙◌, ap}
use Prim.Native.Nat.{ℕ, ◌+◌, ◌≤◌}
use native.Mathlib.Omega.{arith}
use mathlib.Core.List.{◌++◌, append_assoc}
use lib.ListN.{length, take, drop, length-take, length-drop}
use lib.Seq.{sets-eq, drop-drop}
use borrow.Author.Tests.{le-leb}
use Rattle.reading.proofs.bulk.put.Goals as goal

pub returns : goal.returns
returns g c =
    let o = c.args.out.now in
    let v = c.args.numbers in
    let e = c.copy_from_slice.ensures in
    let n : length v ≡ g.row.N = ap length (sym e.after) ∙ e.len ∙ simp (length-take, length-drop) (omega arith) in
    let h : c.args.p + length v ≤ length o = omega arith in
    simp (le-leb _ _ h, sets-eq v o c.args.p h, e.after, append_assoc, drop-drop) (ap (λ (k : ℕ). take c.args.p o ++ (v ++ drop k o)) (omega arith))
