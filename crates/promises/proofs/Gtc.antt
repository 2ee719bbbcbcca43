-- Demands 1 and 3 for GTC.
use Prim.Native.Nat.{ℕ, ◌+◌, ◌≤◌}
use mathlib.Core.Path.{◌≡◌, refl}
use mathlib.Core.List.{List}
use native.Mathlib.Omega.{arith}
use lib.ListN.{length}
use Rattle.reading.specs.Check.{ok, answer}
use Rattle.reading.proofs.Needed.{reach}
use Rattle.reading.specs.Part.{Part}
use Rattle.reading.proofs.Refused.{Refuses}
use Rattle.gtc.specs.Judge.{Extent, judging}
use Rattle.gtc.proofs.Reach as Reach
use Rattle.gtc.proofs.Refused as Refused
use Rattle.gtc_records.proofs.Reach as Records
use Rattle.gtc_records.proofs.Refused as RecordsRefused
use Rattle.gtc.proofs.lookup.Laws.{lookup_within}
use Rattle.gtc_records.proofs.transformation.Laws.{reading_within}
use Rattle.promises.specs.Demand1.{Ends}
use Rattle.promises.specs.Demand3.{Holds}
use Rattle.promises.specs.Gtc.{Call, judge, lookup, snp, snps, transformation, call, gtc}
use Rattle.promises.proofs.Holds.{holds}
use Rattle.promises.proofs.Ends.{AtNone, Anywhere, Asked, ends, at_none, anywhere}

fits : (c : Call) (s : List ℕ) (v : (call c).Value) → answer (call c).checks s ≡ ok v → ((call c).span v).start + ((call c).span v).size ≤ length s
fits judge s v e = omega arith
fits (lookup k) s v e = lookup_within k s v e
fits (snp i) s v e = omega arith
fits (snps i out) s v e = omega arith
fits (transformation k) s v e = reading_within k s v e

under : (c : Call) (s : List ℕ) (v : Extent) → answer judging s ≡ ok v → reach (call c).checks s ≤ v.extent
under judge s v w = omega (arith, Reach.extent s v w)
under (lookup k) s v w = Reach.lookup_under k s v w
under (snp i) s v w = Records.snp_under i s v w
under (snps i out) s v w = Records.snps_under i (length out) s v w
under (transformation k) s v w = Records.transformation_under k s v w

pub gtc_holds : Holds gtc
gtc_holds = holds gtc (record { fits = fits; extent = Reach.extent; under = under })

refuses : (c : Call) (s : List ℕ) → Refuses (Asked gtc c) (call c).checks s
refuses judge s = anywhere gtc s (Refused.judging_refuses Anywhere s (λ _. refl) refl refl refl refl (λ _. refl) (λ _. refl) (λ _. refl) (λ _. refl))
refuses (lookup k) s = at_none gtc (lookup k) s (Refused.lookup_refuses AtNone s (refl, refl) (refl, refl) (refl, refl) (refl, refl) (refl, refl) (refl, refl) (refl, refl) (refl, refl) (refl, refl) (refl, refl) k)
refuses (snp i) s = at_none gtc (snp i) s (RecordsRefused.snp_refuses AtNone s (refl, refl) (refl, refl) (refl, refl) (refl, refl) (refl, refl) (refl, refl) (refl, refl) (refl, refl) (refl, refl) (refl, refl) (refl, refl) (refl, refl) i)
refuses (snps i out) s = at_none gtc (snps i out) s (RecordsRefused.snps_refuses AtNone s (refl, refl) (refl, refl) (refl, refl) (refl, refl) (refl, refl) (refl, refl) (refl, refl) (refl, refl) (refl, refl) (refl, refl) (refl, refl) i (length out) (λ _. (refl, refl)))
refuses (transformation k) s = at_none gtc (transformation k) s (RecordsRefused.transformation_refuses AtNone s (refl, refl) (refl, refl) (refl, refl) (refl, refl) (refl, refl) (refl, refl) (refl, refl) (refl, refl) (refl, refl) (refl, refl) (refl, refl) k)

pub gtc_ends : (c : Call) (file : Part) → Ends gtc c file
gtc_ends = ends gtc refuses
