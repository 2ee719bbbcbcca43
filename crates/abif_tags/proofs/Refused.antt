-- The refusals of the check of tags. P is what holds of these, their numbers and their entries.
use Prim.Native.Nat.{ℕ}
use mathlib.Core.Path.{◌≡◌, refl}
use mathlib.Core.List.{List}
use mathlib.Core.Bool.{true}
use Rattle.reading.specs.Choice.{is_number_of}
use Rattle.reading.proofs.Refused.{Refuses, refuses_done, refuses_must, refuses_bind, refuses_at}
use Rattle.abif.specs.Judge.{judging}
use Rattle.abif.proofs.Refused.{directory_refuses, judging_refuses}
use Rattle.abif_tags.specs.Report.{reporting, checking_whole, checking_tags}

-- judging's, 1 to 10, by the number alone; then 10 and 13
module _ (P : ℕ → ℕ → Type 0) (p : (n : ℕ) → is_number_of n 10 ≡ true → P n 0) (s : List ℕ) where
  pub tags_refuses : P 13 0 → (profile room : ℕ) → Refuses P (checking_tags profile room) s
  unfolding checking_tags checking_whole reporting
  tags_refuses x profile room =
      refuses_bind P _ _ s (refuses_at (λ n _. P n 0) P 0 judging s (λ n e q. q) (judging_refuses (λ n _. P n 0) (λ n h _. p n h) s)) (λ _ _.
      refuses_bind P _ _ s (refuses_must P _ _ 10 s (λ _. p 10 refl)) (λ _ _.
      refuses_bind P _ _ s (directory_refuses P p s) (λ d _. search (refuses_bind, refuses_must, refuses_done, x) depth 8)))
