-- The refusals of the calls that list the directory, and of an opened file's. P is what holds of these.
use Prim.Native.Nat.{ℕ}
use mathlib.Core.Path.{◌≡◌}
use mathlib.Core.List.{List}
use mathlib.Core.Bool.{true}
use Rattle.reading.specs.Choice.{is_number_of}
use Rattle.reading.specs.Check.{Check}
use Rattle.reading.proofs.Refused.{Refuses, refuses_done, refuses_must, refuses_bind}
use Rattle.abif.proofs.Refused.{directory_refuses}
use Rattle.abif_file.specs.Entry.{entry_reading}
use Rattle.abif_file.specs.List.{listing}
use Rattle.abif_file.specs.Opened.{same_directory, of_opened}

module _ (P : ℕ → ℕ → Type 0) (p : (n : ℕ) → is_number_of n 10 ≡ true → P n 0) (s : List ℕ) where
  pub entry_reading_refuses : (i : ℕ) → Refuses P (entry_reading i) s
  unfolding entry_reading
  entry_reading_refuses i = refuses_bind P _ _ s (directory_refuses P p s) (λ d _. search (refuses_bind, refuses_must, refuses_done) depth 12)

  pub listing_refuses : P 13 0 → (room : ℕ) → Refuses P (listing room) s
  unfolding listing
  listing_refuses x room = refuses_bind P _ _ s (directory_refuses P p s) (λ d _. search (refuses_bind, refuses_must, refuses_done, x) depth 12)

  pub opened_refuses : {A : Type 0} (place count : ℕ) (t : Check A) → Refuses P t s → Refuses P (of_opened place count t) s
  unfolding of_opened same_directory
  opened_refuses place count t h = refuses_bind P _ _ s (refuses_bind P _ _ s (directory_refuses P p s) (λ d _. search (refuses_bind, refuses_must) depth 12)) (λ _ _. h)
