use Prim.Native.Nat.{◌≤◌, ◌+◌}
use lib.ListN.{length}
use Rattle.reading.specs.Check.{run}
use Rattle.reading.proofs.Loop.{Left}
use Rattle.sff.specs.Walk.{walk_past}
use Rattle.sff.proofs.walk.SffFile.walk.Given as goal

abbrev pub invariant-loop-j : goal.invariant-loop-j
invariant-loop-j l =
    (l.here.position ≤ length l.self.bytes.now) × Left (λ m. run (walk_past l.self.header m (l.i + l.j) l.here) l.self.bytes.now) l.n l.j (run (walk_past l.self.header l.n l.i l.initial.here) l.self.bytes.now)
