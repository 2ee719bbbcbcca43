use Prim.Native.Nat.{◌+◌, ◌-◌, ◌≤◌}
use mathlib.Core.Path.{◌≡◌}
use lib.ListN.{length}
use Rattle.abif_tags.specs.Private.{left}
use Rattle.abif_tags.proofs.report.Laws.{Gathered}
use Rattle.abif_tags.proofs.report.SideBySide.tell.Given as goal

abbrev pub invariant-loop-i : goal.invariant-loop-i
invariant-loop-i l =
    Gathered (left l.self 0 0) (left l.self l.i l.j) l.m l.initial.out l.out × (l.n ≡ length l.self.order.now) × (l.m ≤ l.i + l.j) × (l.i ≤ length l.self.order.now) × (l.j ≤ 112)

abbrev pub decreases-loop-i : goal.decreases-loop-i
decreases-loop-i l =
    l.n + 112 - (l.i + l.j)
