-- Judging, from the answers of its parts.
use Prim.Native.Nat.{ℕ}
use mathlib.Core.Path.{◌≡◌, refl, sym}
use mathlib.Core.List.{List}
use mathlib.Core.Bool.{Bool, true, false, not}
use borrow.Author.Tests.{eq-eqb, ne_eqb}
use Rattle.reading.specs.declared.check.Failure.{Failure}
use Rattle.reading.specs.declared.check.Rule.TheVariants.{Other}
use Rattle.reading.specs.declared.check.Requirement.TheVariants.{IndexMet}
use Rattle.reading.specs.declared.refusal.Refusal.{Refusal}
use Rattle.reading.specs.Answers.{outcome_of_failure}
use Rattle.reading.specs.Check.{Test, Need, passed, failed, short, run, holds}
use Rattle.reading.proofs.Steps.{run_bind, run_must, run_done}
use Rattle.reading.proofs.Passed.{stops_failed, stops_short, passes_on}
use Rattle.reading.proofs.Tests.{no}
use Rattle.sff_fields.specs.declared.header.Header.{Header}
use Rattle.sff.specs.declared.walk.Boundary.{Boundary}
use Rattle.sff.specs.Header.{header}
use Rattle.sff_fields.specs.Header.{index_offset}
use Rattle.sff.specs.Walk.{first_boundary, skip_index, walk, walk_past}
use Rattle.sff.specs.Judge.{index_met, ending, judging_reads, judging}
use Rattle.reading.proofs.Results.{stops_wrong}

not_true : (b : Bool) → not b ≡ true → b ≡ false
not_true true h = no h
not_true false h = refl

not_false : (b : Bool) → not b ≡ false → b ≡ true
not_false true h = refl
not_false false h = no (sym h)

pub ending_short : (d : Header) (b : Boundary) (s : List ℕ) (p m : ℕ) → run (skip_index d b) s ≡ short (record { start = p; end = m }) 0 → short (record { start = p; end = m }) 0 ≡ run (ending d b) s
unfolding ending
ending_short d b s p m h = simp (run_bind, h)

module _ (d : Header) (b : Boundary) (s : List ℕ) (c : Boundary) (h : passed c ≡ run (skip_index d b) s) where
  ending_met : index_met d c ≡ true → passed c.position ≡ run (ending d b) s
  unfolding ending holds
  ending_met q = simp (run_bind, ← h, run_must, q, run_done)

  pub ending_none : d.index_offset ≡ 0 → passed c.position ≡ run (ending d b) s
  ending_none q = ending_met (rw (eq-eqb d.index_offset 0 q))

  module _ (q : d.index_offset ≡ 0 → ⊥) where
    pub ending_behind : not c.met ≡ false → passed c.position ≡ run (ending d b) s
    ending_behind m = ending_met (rw (ne_eqb d.index_offset 0 q) (not_false c.met m))

    pub ending_unmet : not c.met ≡ true → failed (record { field = index_offset d; rule = Other IndexMet false; number = 4 }) 0 ≡ run (ending d b) s
    unfolding ending holds
    ending_unmet m = simp (run_bind, ← h, run_must, ne_eqb d.index_offset 0 q, not_true c.met m)

module _ (d : Header) (s : List ℕ) where
  pub reads_failed : (t : Test) (e : ℕ) → run (walk_past d d.reads 0 (first_boundary d)) s ≡ failed t e → run (judging_reads d) s ≡ failed t e
  unfolding judging_reads walk_past
  reads_failed t e h = stops_failed (walk d d.reads 0 (first_boundary d)) (λ w. w.behind) _ s t e h

  pub reads_short : (m : Need) (e : ℕ) → run (walk_past d d.reads 0 (first_boundary d)) s ≡ short m e → run (judging_reads d) s ≡ short m e
  unfolding judging_reads walk_past
  reads_short m e h = stops_short (walk d d.reads 0 (first_boundary d)) (λ w. w.behind) _ s m e h

  pub reads_wrong : (f : Failure Refusal) (e : ℕ) → outcome_of_failure f e ≡ run (walk_past d d.reads 0 (first_boundary d)) s → outcome_of_failure f e ≡ run (judging_reads d) s
  unfolding judging_reads walk_past
  reads_wrong f e h = stops_wrong (walk d d.reads 0 (first_boundary d)) (λ w. w.behind) _ s f e h

  pub reads_passed : (b : Boundary) → passed b ≡ run (walk_past d d.reads 0 (first_boundary d)) s → run (ending d b) s ≡ run (judging_reads d) s
  unfolding judging_reads walk_past
  reads_passed b h = passes_on (walk d d.reads 0 (first_boundary d)) (λ w. w.behind) (ending d) s b (sym h)

module _ (s : List ℕ) where
  pub judge_failed : (t : Test) → run header s ≡ failed t 0 → run judging s ≡ failed t 0
  unfolding judging
  judge_failed t h = simp (run_bind, h)

  pub judge_short : (m : Need) → run header s ≡ short m 0 → run judging s ≡ short m 0
  unfolding judging
  judge_short m h = simp (run_bind, h)

  pub judge_passed : (d : Header) → run header s ≡ passed d → run (judging_reads d) s ≡ run judging s
  unfolding judging
  judge_passed d h = simp (run_bind, h)
