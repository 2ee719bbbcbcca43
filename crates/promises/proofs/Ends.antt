-- Demand 1 for a format, from what holds of every refusal of its calls.
use Prim.Native.Nat.{ℕ, zero, suc, ◌≤◌}
use mathlib.Core.Path.{◌≡◌, refl, sym, ap, subst}
use mathlib.Core.Bool.{Bool, true, false}
use mathlib.Core.List.{List}
use native.Mathlib.Omega.{arith}
use lib.Dec.{eqb}
use borrow.Author.Tests.{eqb-true, eqb-false}
use Rattle.reading.specs.Choice.{among, is_number_of}
use Rattle.reading.specs.Check.{Answer, ok, refused, map_answer, answer}
use Rattle.reading.specs.Part.{Part, handed_back}
use Rattle.reading.specs.Lent.{filled}
use Rattle.reading.proofs.Refused.{Refuses}
use Rattle.reading.proofs.Tests.{number_within}
use Rattle.promises.specs.Refusals.{refusals}
use Rattle.promises.specs.Format.{Format}
use Rattle.promises.specs.Seen.{Seen}
use Rattle.promises.specs.Demand1.{Ends, answers, refuses}

-- Q holds of the first m numbers, from one
abbrev FirstOf : (ℕ → Type 0) → ℕ → Type 0
FirstOf Q zero = Unit {0}
FirstOf Q (suc m) = FirstOf Q m × Q (suc m)

first_of : (Q : ℕ → Type 0) (m n : ℕ) → 1 ≤ n → n ≤ m → FirstOf Q m → Q n
first_of Q zero n a b t = absurd (omega arith)
first_of Q (suc m) n a b t = go (eqb n (suc m)) refl (λ l. first_of Q m n a l t.0)
  where
    go : (x : Bool) → eqb n (suc m) ≡ x → (n ≤ m → Q n) → Q n
    go true q f = subst Q (sym (eqb-true n (suc m) q)) t.1
    go false q f = f (omega (arith, eqb-false n (suc m) q))

-- the refusals 1 to 10 are of the table
pub up_to_ten : (n : ℕ) → is_number_of n 10 ≡ true → among n refusals ≡ true
up_to_ten n h =
    let w = number_within n 10 h in
    first_of (λ k. among k refusals ≡ true) 10 n w.0 w.1 ((((((((((tt, refl), refl), refl), refl), refl), refl), refl), refl), refl), refl)

-- a refusal of the table, at 0 or at any entry
abbrev pub AtNone : ℕ → ℕ → Type 0
AtNone n e = (among n refusals ≡ true) × (e ≡ 0)

abbrev pub Anywhere : ℕ → ℕ → Type 0
Anywhere n e = among n refusals ≡ true

module _ (f : Format) where
  -- what demand 1 asks of a refusal of call c
  abbrev pub Asked : f.Call → ℕ → ℕ → Type 0
  Asked c n e = (among n refusals ≡ true) × ((c ≡ f.judging → ⊥) → e ≡ 0)

  abbrev shows : (c : f.Call) → Part → Answer (f.call c).Value → Seen f c
  shows c file r = record { answers = r; part = handed_back file (map_answer (f.call c).span r); list = filled (map_answer (f.call c).writes r) (f.call c).lent }

  pub ends : ((c : f.Call) (s : List ℕ) → Refuses (Asked c) (f.call c).checks s) → (c : f.Call) (file : Part) → Ends f c file
  ends all c file = go (answer (f.call c).checks file.bytes) refl
    where
      go : (r : Answer (f.call c).Value) → answer (f.call c).checks file.bytes ≡ r → Ends f c file
      go (ok v) q = answers v q
      go (refused n e) q =
          let p = (all c file.bytes).told n e q in
          refuses n e p.0 p.1 (ap (shows c file) q)

  -- a call that reports no entry, and judging
  pub at_none : (c : f.Call) (s : List ℕ) → Refuses AtNone (f.call c).checks s → Refuses (Asked c) (f.call c).checks s
  at_none c s h = record { told = λ n e q. let p = h.told n e q in (p.0, λ _. p.1) }

  pub anywhere : (s : List ℕ) → Refuses Anywhere (f.call f.judging).checks s → Refuses (Asked f.judging) (f.call f.judging).checks s
  anywhere s h = record { told = λ n e q. (h.told n e q, λ k. absurd (k refl)) }
