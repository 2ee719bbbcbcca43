-- Demands 1 and 3 for SFF.
use Prim.Native.Nat.{ℕ, ◌+◌, ◌≤◌}
use mathlib.Core.Path.{◌≡◌, refl}
use mathlib.Core.List.{List}
use native.Mathlib.Omega.{arith}
use lib.ListN.{length}
use Rattle.reading.specs.Check.{ok, answer}
use Rattle.reading.proofs.Needed.{reach}
use Rattle.reading.specs.Part.{Part}
use Rattle.reading.proofs.Refused.{Refuses}
use Rattle.sff.specs.Judge.{judging}
use Rattle.sff.proofs.Reach as Reach
use Rattle.sff.proofs.Refused as Refused
use Rattle.sff.proofs.lookup.Laws.{number_fits}
use Rattle.promises.specs.Demand1.{Ends}
use Rattle.promises.specs.Demand3.{Holds}
use Rattle.promises.specs.Sff.{Call, judge, fields, read, reads, flow_of_base, call, sff}
use Rattle.promises.proofs.Holds.{holds}
use Rattle.promises.proofs.Ends.{AtNone, Anywhere, Asked, ends, at_none, anywhere}

fits : (c : Call) (s : List ℕ) (v : (call c).Value) → answer (call c).checks s ≡ ok v → ((call c).span v).start + ((call c).span v).size ≤ length s
fits judge s v e = omega arith
fits fields s v e = omega arith
fits (read k q) s v e = number_fits s k v e q
fits (reads i out) s v e = omega arith
fits (flow_of_base k i) s v e = omega arith

under : (c : Call) (s : List ℕ) (x : ℕ) → answer judging s ≡ ok x → reach (call c).checks s ≤ x
under judge s x w = omega (arith, Reach.extent s x w)
under fields s x w = Reach.header_under s x w
under (read k q) s x w = Reach.number_under k s x w
under (reads i out) s x w = Reach.reads_under i (length out) s x w
under (flow_of_base k i) s x w = Reach.flow_under k i s x w

pub sff_holds : Holds sff
sff_holds = holds sff (record { fits = fits; extent = Reach.extent; under = under })

refuses : (c : Call) (s : List ℕ) → Refuses (Asked sff c) (call c).checks s
refuses judge s = anywhere sff s (Refused.judging_refuses Anywhere s (λ _. refl) (λ _. refl) refl refl refl)
refuses fields s = at_none sff fields s (Refused.header_refuses AtNone s (refl, refl) (refl, refl) (refl, refl) (refl, refl))
refuses (read k q) s = at_none sff (read k q) s (Refused.read_refuses AtNone s (refl, refl) (refl, refl) (refl, refl) (refl, refl) (refl, refl) (refl, refl) (refl, refl) k)
refuses (reads i out) s = at_none sff (reads i out) s (Refused.reads_refuses AtNone s (refl, refl) (refl, refl) (refl, refl) (refl, refl) (refl, refl) (refl, refl) i (length out) (λ _. (refl, refl)))
refuses (flow_of_base k i) s = at_none sff (flow_of_base k i) s (Refused.flow_refuses AtNone s (refl, refl) (refl, refl) (refl, refl) (refl, refl) (refl, refl) (refl, refl) (refl, refl) (refl, refl) k i)

pub sff_ends : (c : Call) (file : Part) → Ends sff c file
sff_ends = ends sff refuses
