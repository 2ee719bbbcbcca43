-- The refusals of ABIF's reading calls. P is what holds of these, their numbers and their entries.
use Prim.Native.Nat.{ℕ, ◌+◌, ◌*◌}
use mathlib.Core.Path.{◌≡◌, refl}
use mathlib.Core.List.{List}
use mathlib.Core.Bool.{true}
use Rattle.reading.specs.Choice.{is_number_of}
use Rattle.reading.proofs.Refused.{Refuses, refuses_done, refuses_must, refuses_need, refuses_bind, refuses_pick}
use Rattle.reading.proofs.Entries.{one_refuses, order_refuses}
use Rattle.abif.specs.declared.entry.Entry.{Entry}
use Rattle.abif.specs.declared.entry.ElementType.{ElementType}
use Rattle.abif.specs.declared.entry.ElementType.TheVariants.{Listed, Raw, Unknown}
use Rattle.abif.specs.Entry.{entry_of, listed_check, raw_check, sizes_check, place_check, entry_check}
use Rattle.abif.specs.Directory.{header_check, bounds_check, directory, opening}
use Rattle.abif.specs.Judge.{judge_entry, judging}
use Rattle.abif.specs.Lookup.{item_of, lookup_in, looking_up}

-- the header and directory checks and lookup: 1 to 10, at 0
module _ (P : ℕ → ℕ → Type 0) (p : (n : ℕ) → is_number_of n 10 ≡ true → P n 0) (s : List ℕ) where
  pub directory_refuses : Refuses P directory s
  unfolding directory header_check bounds_check
  directory_refuses = search (refuses_bind, refuses_must, refuses_need, refuses_done) depth 20 fits 3000

  sizes_refuses : (k : ElementType) (d : Entry) → Refuses P (sizes_check k d) s
  unfolding sizes_check listed_check raw_check
  sizes_refuses (Listed w) d = search (refuses_bind, refuses_must) depth 12
  sizes_refuses Raw d = search (refuses_bind, refuses_must) depth 12
  sizes_refuses Unknown d = search (refuses_must) depth 12

  pub entry_refuses : (d : Entry) → Refuses P (entry_check d) s
  unfolding entry_check place_check
  entry_refuses d = search (refuses_bind, refuses_must, refuses_need, refuses_done, refuses_pick, sizes_refuses) depth 12

  pub lookup_refuses : (a b : ℕ) → Refuses P (looking_up a b) s
  unfolding looking_up lookup_in item_of
  lookup_refuses a b = search (refuses_bind, refuses_done, directory_refuses, one_refuses, entry_refuses) depth 12

  pub opening_refuses : Refuses P opening s
  unfolding opening
  opening_refuses = refuses_bind P _ _ s directory_refuses (λ d _. refuses_done P _ s)

-- judging reports each entry by its number
module _ (P : ℕ → ℕ → Type 0) (p : (n : ℕ) → is_number_of n 10 ≡ true → (e : ℕ) → P n e) (s : List ℕ) where
  judge_entry_refuses : (h : List ℕ) (q i : ℕ) → Refuses (λ n _. P n (i + 1)) (judge_entry h q i) s
  unfolding judge_entry
  judge_entry_refuses h q i = refuses_bind _ _ _ s (refuses_must _ _ _ 8 s (λ _. p 8 refl (i + 1))) (λ _ _. entry_refuses (λ n _. P n (i + 1)) (λ n f. p n f (i + 1)) s (entry_of h (q + 28 * i)))

  pub judging_refuses : Refuses P judging s
  unfolding judging
  judging_refuses = refuses_bind P _ _ s (directory_refuses P (λ n f. p n f 0) s) (λ d _. order_refuses P s (judge_entry d.up_to d.place) (judge_entry_refuses d.up_to d.place) d.count 0 _)
