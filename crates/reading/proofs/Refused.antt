-- What holds of every refusal of a call, its number and its entry, from what holds of those of its parts.
use Prim.Native.Nat.{ℕ}
use mathlib.Core.Path.{◌≡◌, refl, sym, ◌∙◌, subst}
use mathlib.Core.List.{List}
use mathlib.Core.Bool.{Bool, true, false}
use lib.ListN.{length}
use lib.Dec.{leb}
use borrow.Author.Tests.{leb-true, leb-false}
use Rattle.reading.specs.Choice.{pick}
use Rattle.reading.specs.declared.check.Field.{Field}
use Rattle.reading.specs.declared.check.Rule.{Rule}
use Rattle.reading.specs.Check.{Check, done, holds, Answer, ok, refused, answer, must, need, at, ◌>>=◌}
use Rattle.reading.proofs.Steps.{after, answer_bind, answer_done, answer_must, answer_need_present, answer_need_absent, answer_at, answer_at_entry}
use Rattle.reading.proofs.Passed.{not_ok}

-- P holds of every refusal of the call
pub record Refuses {A : Type 0} (P : ℕ → ℕ → Type 0) (t : Check A) (s : List ℕ) : Type 0 where
  pub told : (n e : ℕ) → answer t s ≡ refused n e → P n e

module _ (P : ℕ → ℕ → Type 0) where
  told_by : {A : Type 0} (r : Answer A) (m d n e : ℕ) → r ≡ refused m d → r ≡ refused n e → P m d → P n e
  told_by r m d n e a b p =
      let x : m ≡ n = cc in
      let y : d ≡ e = cc in
      subst (λ (k : ℕ). P k e) x (subst (P m) y p)

  pub refuses_done : {A : Type 0} (a : A) (s : List ℕ) → Refuses P (done a) s
  refuses_done a s = record { told = λ n e h. absurd (not_ok (sym h ∙ answer_done a s)) }

  -- a test that fails
  pub refuses_must : (f : Field) (r : Rule) (m : ℕ) (s : List ℕ) → (holds r f ≡ false → P m 0) → Refuses P (must f r m) s
  refuses_must f r m s p = record { told = λ n e h. go (holds r f) refl n e (sym (answer_must f r m s) ∙ h) }
    where
      go : (b : Bool) → holds r f ≡ b → (n e : ℕ) → ◌≡◌ {A = Answer (Unit {0})} (pick b (ok tt) (refused m 0)) (refused n e) → P n e
      go true q n e w = absurd (not_ok (sym w))
      go false q n e w = told_by _ m 0 n e refl w (p q)

  pub refuses_need : (p m : ℕ) (s : List ℕ) → P 1 0 → Refuses P (need p m) s
  refuses_need p m s q = record { told = λ n e h. go (leb m (length s)) refl n e h }
    where
      go : (b : Bool) → leb m (length s) ≡ b → (n e : ℕ) → answer (need p m) s ≡ refused n e → P n e
      go true r n e h = absurd (not_ok (sym h ∙ answer_need_present p m s (leb-true m (length s) r)))
      go false r n e h = told_by _ 1 0 n e (answer_need_absent p m s (leb-false m (length s) r)) h q

  -- one call after another
  pub refuses_bind : {A B : Type 0} (t : Check A) (f : A → Check B) (s : List ℕ) → Refuses P t s → ((a : A) → answer t s ≡ ok a → Refuses P (f a) s) → Refuses P (t >>= f) s
  refuses_bind {A} t f s p q = record { told = λ n e h. go (answer t s) refl n e (sym (answer_bind t f s) ∙ h) }
    where
      go : (r : Answer A) → answer t s ≡ r → (n e : ℕ) → after r (λ a. answer (f a) s) ≡ refused n e → P n e
      go (ok a) g n e h = (q a g).told n e h
      go (refused m d) g n e h = told_by _ m d n e refl h (p.told m d g)

  -- a choice of calls
  pub refuses_pick : {A : Type 0} (b : Bool) (t u : Check A) (s : List ℕ) → Refuses P t s → Refuses P u s → Refuses P (pick b t u) s
  refuses_pick true t u s p q = p
  refuses_pick false t u s p q = q

-- the same checks, reported at entry e
pub refuses_at : {A : Type 0} (P Q : ℕ → ℕ → Type 0) (e : ℕ) (t : Check A) (s : List ℕ) → ((n d : ℕ) → P n d → Q n e) → Refuses P t s → Refuses Q (at e t) s
refuses_at {A} P Q e t s f p = record { told = λ n d h. go (answer t s) refl n d (sym (answer_at e t s) ∙ h) }
  where
    go : (r : Answer A) → answer t s ≡ r → (n d : ℕ) → answer_at_entry e r ≡ refused n d → Q n d
    go (ok a) g n d h = absurd (not_ok (sym h))
    go (refused m c) g n d h = told_by Q _ m e n d refl h (f m c (p.told m c g))
