-- The verdict with its tail: from what judging's checks find, and what they have answered from it.
use Prim.Native.Nat.{ℕ, ◌-◌}
use mathlib.Core.Path.{◌≡◌, refl, sym, ◌∙◌, ap}
use mathlib.Core.List.{List}
use lib.ListN.{length}
use Rattle.reading.specs.declared.check.Failure.{Failure}
use Rattle.reading.specs.declared.check.Failure.TheVariants.{Failed, Short}
use Rattle.reading.specs.declared.check.Reason.{Reason}
use Rattle.reading.specs.declared.refusal.Refusal.{Refusal}
use Rattle.reading.specs.declared.verdict.Refused.{Refused}
use Rattle.reading.specs.Check.{Check, Outcome, passed, failed, short, Answer, ok, refused, answer_of_outcome, run}
use Rattle.reading.specs.Refusal.{number}
use Rattle.reading.specs.Answers.{test_of, refusal_of, TellsRefusal, outcome_of_failure}
use Rattle.reading.specs.Verdict.{with_tail, verdict_of}
use Rattle.reading.proofs.Passed.{not_ok, ok_inj}
use Rattle.reading.proofs.Cut.{answer_plain}

-- the verdict, from what judging's checks find
module _ {A : Type 0} (t : Check A) (extent : A → ℕ) (s : List ℕ) where
  pub verdict_explained : (r : Outcome A) → r ≡ run t s → with_tail extent (length s) (answer_of_outcome r) ≡ verdict_of t extent s
  verdict_explained r e = ap (with_tail extent (length s)) (ap answer_of_outcome e ∙ sym (answer_plain t s))

  pub verdict_refused : (f : Failure Refusal) (e : ℕ) → outcome_of_failure f e ≡ run t s → refused (number (refusal_of f)) e ≡ verdict_of t extent s
  verdict_refused (Failed w) e q = verdict_explained (failed (test_of w) e) q
  verdict_refused (Short p m) e q = verdict_explained (short (record { start = p; end = m }) e) q

  pub verdict_whole : (a : A) → passed a ≡ run t s → ok (a, length s - extent a) ≡ verdict_of t extent s
  verdict_whole a q = verdict_explained (passed a) q

module _ {A : Type 0} (extent : A → ℕ) (n : ℕ) where
  pub tail_ok : (r : Answer A) (v : A) (t : ℕ) → with_tail extent n r ≡ ok (v, t) → (r ≡ ok v) × (t ≡ n - extent v)
  tail_ok (ok w) v t h =
      let p = ok_inj h in
      let e : w ≡ v = ap (λ (q : A × ℕ). q.0) p in
      (ap ok e, rw (← e) (sym (ap (λ (q : A × ℕ). q.1) p)))
  tail_ok (refused k e) v t h = absurd (not_ok h)

  pub tail_refused : (r : Answer A) (k e : ℕ) → with_tail extent n r ≡ refused k e → r ≡ refused k e
  tail_refused (ok w) k e h = absurd (not_ok (sym h))
  tail_refused (refused j d) k e h = cc

-- a type that tells refusals as themselves tells the refusal itself
pub refusal_plain : (f : Failure Refusal) (r : Refusal) → TellsRefusal (λ x y. y ≡ x) f r → r ≡ refusal_of f
refusal_plain (Failed t) r h = h
refusal_plain (Short p m) r h = h

-- a refused file, as its reason converts to it
pub refused_plain : (w : Reason Refusal) (r : Refused Refusal) → TellsRefusal (λ x y. y ≡ x) w.failure r.refusal × (r.entry ≡ w.entry) → r ≡ record { refusal = refusal_of w.failure; entry = w.entry }
refused_plain w r h = rw (← refusal_plain w.failure r.refusal h.0, ← h.1) refl

-- what is wrong, by a type that tells refusals by numbers of its own
abbrev pub numbered : {A : Type 0} → Failure ℕ → ℕ → Outcome A
numbered (Failed t) e = failed (record { field = t.field; rule = t.rule; number = t.refusal }) e
numbered (Short p m) e = short (record { start = p; end = m }) e

-- the verdict on a file that such a type tells to be refused
pub refused_numbered : {A : Type 0} (extent : A → ℕ) (n : ℕ) (w : Reason ℕ) (r : Refused ℕ) → TellsRefusal (λ x k. k ≡ number x) w.failure r.refusal × (r.entry ≡ w.entry) → refused r.refusal r.entry ≡ with_tail extent n (answer_of_outcome (numbered w.failure w.entry))
refused_numbered extent n w r h = go w.failure h.0 ∙ ap (λ e. with_tail extent n (answer_of_outcome (numbered w.failure e))) h.1
  where
    go : (f : Failure ℕ) → TellsRefusal (λ x k. k ≡ number x) f r.refusal → refused r.refusal r.entry ≡ with_tail extent n (answer_of_outcome (numbered f r.entry))
    go (Failed t) q = rw q refl
    go (Short p m) q = rw q refl
