-- What raw entries, listing and the calls of an opened file need: no more than the extent.
use Prim.Native.Nat.{ℕ, ◌≤◌}
use mathlib.Core.Path.{◌≡◌}
use mathlib.Core.List.{List}
use mathlib.Core.Bool.{Bool}
use Rattle.reading.specs.Check.{Check, ok, answer, done, provided, ◌>>=◌, ◌>>◌}
use Rattle.reading.proofs.Needed.{reach}
use Rattle.reading.proofs.Reach.{reach_under, reach_must_under, reach_done_under}
use Rattle.abif.specs.Directory.{Directory, directory}
use Rattle.abif.specs.Judge.{judging}
use Rattle.abif.proofs.Reach.{directory_under}
use Rattle.abif_file.specs.Entry.{entry_reading}
use Rattle.abif_file.specs.List.{listing}
use Rattle.abif_file.specs.Opened.{same_directory, of_opened}

module _ (s : List ℕ) (x : ℕ) (w : answer judging s ≡ ok x) where
  -- the header and directory checks, then one test, then the answer
  told_under : {A : Type 0} (b : Directory → Bool) (k : ℕ) (g : Directory → A) → reach (directory >>= (λ d. provided (b d) k >> done (g d))) s ≤ x
  told_under b k g = reach_under x _ _ s (directory_under s x w) (λ _ _. reach_under x _ _ s (reach_must_under x _ _ _ s) (λ _ _. reach_done_under x _ s))

  pub entry_reading_under : (i : ℕ) → reach (entry_reading i) s ≤ x
  unfolding entry_reading
  entry_reading_under i = told_under _ _ _

  pub listing_under : (room : ℕ) → reach (listing room) s ≤ x
  unfolding listing
  listing_under room = told_under _ _ _

  same_under : (p n : ℕ) → reach (same_directory p n) s ≤ x
  unfolding same_directory
  same_under p n = reach_under x _ _ s (directory_under s x w) (λ _ _. reach_under x _ _ s (reach_must_under x _ _ _ s) (λ _ _. reach_must_under x _ _ _ s))

  -- a later call needs no more where the call itself does not
  pub opened_under : {A : Type 0} (p n : ℕ) (t : Check A) → reach t s ≤ x → reach (of_opened p n t) s ≤ x
  unfolding of_opened
  opened_under p n t h = search (reach_under, same_under, h) depth 6
