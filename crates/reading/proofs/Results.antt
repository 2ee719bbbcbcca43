-- What a function makes of its callee's result, where the callee does the checks of t: the answer by their numbers, or it goes on with the checks of g.
use Prim.Native.Nat.{ℕ}
use mathlib.Core.Path.{◌≡◌, refl, sym, ◌∙◌, ap}
use mathlib.Core.List.{List}
use Rattle.std.specs.Prelude.{Result, Ok, Err}
use Rattle.std.specs.Result.{MatchResult, IsErrAnd}
use Rattle.std.proofs.lemmas.Result.{err_from_is_err_and}
use Rattle.reading.specs.declared.check.Test as code
use Rattle.reading.specs.declared.check.Failure.{Failure}
use Rattle.reading.specs.declared.check.Failure.TheVariants.{Failed, Short}
use Rattle.reading.specs.declared.check.Reason.{Reason}
use Rattle.reading.specs.declared.refusal.Refusal.{Refusal}
use Rattle.reading.specs.Check.{Check, done, passed, failed, ok, refused, run, answer, ◌>>=◌}
use Rattle.reading.specs.Refusal.{number}
use Rattle.reading.specs.Answers.{test_of, refusal_of, outcome_of, outcome_of_failure, outcome_of_judged}
use Rattle.reading.proofs.Cut.{answer_plain}
use Rattle.reading.proofs.Passed.{stops_failed, stops_short}
use Rattle.reading.proofs.Steps.{run_bind, answer_bind}

module _ {A : Type 0} (t : Check A) (s : List ℕ) where
  -- the answer, from what the checks find
  pub answer_wrong : (f : Failure Refusal) (e : ℕ) → outcome_of_failure f e ≡ run t s → refused (number (refusal_of f)) e ≡ answer t s
  answer_wrong (Failed w) e q = simp (answer_plain, ← q)
  answer_wrong (Short p m) e q = simp (answer_plain, ← q)

  pub answer_passed : (a : A) → passed a ≡ run t s → ok a ≡ answer t s
  answer_passed a q = simp (answer_plain, ← q)

  module _ {B : Type 0} (g : A → Check B) where
    -- the checks of g behind those of t
    pub run_wrong : (f : Failure Refusal) (e : ℕ) → outcome_of_failure f e ≡ run t s → outcome_of_failure f e ≡ run (t >>= g) s
    run_wrong (Failed w) e q = simp (run_bind, ← q)
    run_wrong (Short p m) e q = simp (run_bind, ← q)

    pub run_passed : (a : A) → passed a ≡ run t s → run (g a) s ≡ run (t >>= g) s
    run_passed a q = simp (run_bind, ← q)

    pub run_tested : (w : code.Test Refusal) → failed (test_of w) 0 ≡ run t s → failed (test_of w) 0 ≡ run (t >>= g) s
    run_tested w q = simp (run_bind, ← q)

    pub answer_refused : (r : Refusal) (e : ℕ) → refused (number r) e ≡ answer t s → refused (number r) e ≡ answer (t >>= g) s
    answer_refused r e q = simp (answer_bind, ← q)

    pub answer_ok : (a : A) → ok a ≡ answer t s → answer (g a) s ≡ answer (t >>= g) s
    answer_ok a q = simp (answer_bind, ← q)

    pub answer_wrong_behind : (f : Failure Refusal) (e : ℕ) → outcome_of_failure f e ≡ run t s → refused (number (refusal_of f)) e ≡ answer (t >>= g) s
    answer_wrong_behind f e q = simp (answer_bind, ← answer_wrong f e q)

-- two calls that begin alike, of which the first then only makes its value: what is wrong with the one is wrong with the other
pub stops_wrong : {A B C : Type 0} (t : Check A) (g : A → B) (f : A → Check C) (s : List ℕ) (w : Failure Refusal) (e : ℕ) → outcome_of_failure w e ≡ run (t >>= (λ a. done (g a))) s → outcome_of_failure w e ≡ run (t >>= f) s
stops_wrong t g f s (Failed x) e h = sym (stops_failed t g f s _ e (sym h))
stops_wrong t g f s (Short p m) e h = sym (stops_short t g f s _ e (sym h))

-- a result whose failure is told at 0, where the checks report it: P is what the closure that tells it ensures
pub judged_same : {A : Type 0} (P : Failure Refusal → Reason Refusal → Type 0) (says : (f : Failure Refusal) (w : Reason Refusal) → P f w → w ≡ record { failure = f; entry = 0 }) (t : Check A) (s : List ℕ) (r : Result A (Failure Refusal)) (q : Result A (Reason Refusal)) → MatchResult r (λ a. q ≡ Ok a) (λ f. IsErrAnd q (P f)) → outcome_of r ≡ run t s → outcome_of_judged q ≡ run t s
judged_same P says t s (Ok a) q h k = ap outcome_of_judged h ∙ k
judged_same P says t s (Err f) q h k =
    let p = err_from_is_err_and q h in
    let w = says f p.0 p.2 in
    rw (p.1, w) k

-- a result whose failure is told at entry e: P is what the closure that tells it ensures
pub told_at : {A : Type 0} (P : Failure Refusal → Reason Refusal → Type 0) (e : ℕ) → ((f : Failure Refusal) (w : Reason Refusal) → P f w → w ≡ record { failure = f; entry = e }) → (r : Result A (Failure Refusal)) (q : Result A (Reason Refusal)) → MatchResult r (λ a. q ≡ Ok a) (λ f. IsErrAnd q (P f)) → ((a : A) → q ≡ Ok a → r ≡ Ok a) × ((w : Reason Refusal) → q ≡ Err w → (f : Failure Refusal) × (r ≡ Err f) × (w ≡ record { failure = f; entry = e }))
told_at P e says (Ok b) q h = (λ a k. let z = sym h ∙ k in let y : b ≡ a = cc in rw y, λ w k. absurd (cc))
told_at P e says (Err f) q h =
    let p = err_from_is_err_and q h in
    (λ a k. absurd (cc), λ w k. let z : w ≡ p.0 = cc in (f, refl, z ∙ says f p.0 p.2))
