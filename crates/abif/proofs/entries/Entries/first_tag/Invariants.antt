use Prim.Native.Nat.{◌-◌}
use Rattle.reading.proofs.Loop.{Left}
use Rattle.reading.specs.Entries.{first_with}
use Rattle.abif.specs.Entry.{has_tag}
use Rattle.abif.proofs.entries.Entries.first_tag.Given as goal

abbrev pub invariant-loop-i : goal.invariant-loop-i
invariant-loop-i l =
    Left (λ m. first_with (has_tag l.self.bytes.now l.self.place l.name l.number) m l.i) l.n l.i (first_with (has_tag l.self.bytes.now l.self.place l.name l.number) (l.n - l.from) l.from)
