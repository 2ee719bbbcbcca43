-- The refusals of the calls for elements, whole numbers and text. P is what holds of these, their numbers and their entries.
use Prim.Native.Nat.{ℕ}
use mathlib.Core.Path.{◌≡◌}
use mathlib.Core.List.{List}
use mathlib.Core.Bool.{true, false}
use lib.Dec.{leb}
use Rattle.reading.specs.Choice.{is_number_of}
use Rattle.reading.specs.Check.{holds}
use Rattle.reading.proofs.Refused.{Refuses, refuses_done, refuses_must, refuses_need, refuses_bind, refuses_pick}
use Rattle.abif.proofs.Refused.{lookup_refuses}
use Rattle.abif_elements.specs.Element.{date_at, time_at, value_at, element_of, element_reading}
use Rattle.abif_elements.specs.Text.{p_string, c_string, text_of, text_reading}
use Rattle.abif_elements.specs.Numbers.{numbers_of_item, numbers_reading}

-- lookup: 1 to 10, at 0
module _ (P : ℕ → ℕ → Type 0) (p : (n : ℕ) → is_number_of n 10 ≡ true → P n 0) (s : List ℕ) where
  pub element_refuses : P 11 0 → P 12 0 → (a b i : ℕ) → Refuses P (element_reading a b i) s
  unfolding element_reading element_of value_at date_at time_at
  element_refuses x y a b i = refuses_bind P _ _ s (lookup_refuses P p s a b) (λ q _. search (refuses_bind, refuses_must, refuses_need, refuses_done, refuses_pick, x, y) depth 20 fits 3000)

  pub text_refuses : P 11 0 → (a b : ℕ) → Refuses P (text_reading a b) s
  unfolding text_reading text_of p_string c_string
  text_refuses x a b = refuses_bind P _ _ s (lookup_refuses P p s a b) (λ q _. search (refuses_bind, refuses_must, refuses_need, refuses_done, refuses_pick, x) depth 20)

  pub numbers_refuses : P 12 0 → (a b first room : ℕ) → (leb 1 room ≡ false → P 13 0) → Refuses P (numbers_reading a b first room) s
  unfolding numbers_reading numbers_of_item holds
  numbers_refuses x a b first room y = refuses_bind P _ _ s (lookup_refuses P p s a b) (λ q _. search (refuses_bind, refuses_must, refuses_need, refuses_done, x, y) depth 20)
