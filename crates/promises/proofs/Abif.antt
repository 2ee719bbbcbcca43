-- Demands 1 and 3 for ABIF, the records of a list, and the calls of an opened file.
use Prim.Native.Nat.{ℕ, ◌+◌, ◌≤◌}
use mathlib.Core.Path.{◌≡◌, refl}
use mathlib.Core.Bool.{true}
use mathlib.Core.List.{List}
use native.Mathlib.Omega.{arith}
use lib.ListN.{length}
use Rattle.reading.specs.Choice.{is_number_of}
use Rattle.reading.specs.Check.{ok, answer}
use Rattle.reading.proofs.Needed.{reach}
use Rattle.reading.specs.Part.{Part}
use Rattle.reading.proofs.Refused.{Refuses}
use Rattle.abif.specs.Judge.{judging}
use Rattle.abif.proofs.Reach as Reach
use Rattle.abif.proofs.Refused as Refused
use Rattle.abif_elements.proofs.Reach as Elements
use Rattle.abif_elements.proofs.Refused as ElementsRefused
use Rattle.abif.proofs.lookup.Laws.{found_checked}
use Rattle.abif_elements.proofs.text.Laws.{text_fits}
use Rattle.abif_file.proofs.Reach.{entry_reading_under, listing_under, opened_under}
use Rattle.abif_file.proofs.Refused.{entry_reading_refuses, listing_refuses, opened_refuses}
use Rattle.abif_file.proofs.list.Numbered.{entries_of}
use Rattle.abif_tags.proofs.Reach.{tags_under}
use Rattle.abif_tags.proofs.Refused.{tags_refuses}
use Rattle.abif_file.proofs.opened.Laws.{later_passed, later_with, later_other, later_unopened}
use Rattle.promises.specs.Demand1.{Ends}
use Rattle.promises.specs.Demand3.{Holds}
use Rattle.promises.specs.Abif.{FileCall, lookup, element, text, list, Call, judge, open_file, entry, whole_numbers, check_tags, of, opened, file_call, call, abif, ListsAreEntries, OpenedAsFile}
use Rattle.promises.proofs.Holds.{holds}
use Rattle.promises.proofs.Ends.{up_to_ten, AtNone, Anywhere, Asked, ends, at_none, anywhere}

file_fits : (c : FileCall) (s : List ℕ) (v : (file_call c).Value) → answer (file_call c).checks s ≡ ok v → ((file_call c).span v).start + ((file_call c).span v).size ≤ length s
file_fits (lookup a b) s v e = (found_checked s a b v e).within
file_fits (element a b i) s v e = omega arith
file_fits (text a b) s v e = text_fits s a b v e
file_fits (list out) s v e = omega arith

fits : (c : Call) (s : List ℕ) (v : (call c).Value) → answer (call c).checks s ≡ ok v → ((call c).span v).start + ((call c).span v).size ≤ length s
fits judge s v e = omega arith
fits open_file s v e = omega arith
fits (entry i) s v e = omega arith
fits (whole_numbers a b i out) s v e = omega arith
fits (check_tags p out) s v e = omega arith
fits (of c) s v e = file_fits c s v e
fits (opened p n c) s v e = file_fits c s v (later_passed p n (file_call c).checks s v e)

file_under : (c : FileCall) (s : List ℕ) (x : ℕ) → answer judging s ≡ ok x → reach (file_call c).checks s ≤ x
file_under (lookup a b) s x w = Reach.lookup_under a b s x w
file_under (element a b i) s x w = Elements.element_under a b i s x w
file_under (text a b) s x w = Elements.text_under a b s x w
file_under (list out) s x w = listing_under s x w (length out)

under : (c : Call) (s : List ℕ) (x : ℕ) → answer judging s ≡ ok x → reach (call c).checks s ≤ x
under judge s x w = omega (arith, Reach.extent s x w)
under open_file s x w = Reach.opening_under s x w
under (entry i) s x w = entry_reading_under s x w i
under (whole_numbers a b i out) s x w = Elements.numbers_under a b i (length out) s x w
under (check_tags p out) s x w = tags_under p (length out) s x w
under (of c) s x w = file_under c s x w
under (opened p n c) s x w = opened_under s x w p n (file_call c).checks (file_under c s x w)

pub abif_holds : Holds abif
abif_holds = holds abif (record { fits = fits; extent = Reach.extent; under = under })

-- the refusals 1 to 10, at 0
ten : (n : ℕ) → is_number_of n 10 ≡ true → AtNone n 0
ten n h = (up_to_ten n h, refl)

file_refuses : (c : FileCall) (s : List ℕ) → Refuses AtNone (file_call c).checks s
file_refuses (lookup a b) s = Refused.lookup_refuses AtNone ten s a b
file_refuses (element a b i) s = ElementsRefused.element_refuses AtNone ten s (refl, refl) (refl, refl) a b i
file_refuses (text a b) s = ElementsRefused.text_refuses AtNone ten s (refl, refl) a b
file_refuses (list out) s = listing_refuses AtNone ten s (refl, refl) (length out)

refuses : (c : Call) (s : List ℕ) → Refuses (Asked abif c) (call c).checks s
refuses judge s = anywhere abif s (Refused.judging_refuses Anywhere (λ n h e. up_to_ten n h) s)
refuses open_file s = at_none abif open_file s (Refused.opening_refuses AtNone ten s)
refuses (entry i) s = at_none abif (entry i) s (entry_reading_refuses AtNone ten s i)
refuses (whole_numbers a b i out) s = at_none abif (whole_numbers a b i out) s (ElementsRefused.numbers_refuses AtNone ten s (refl, refl) a b i (length out) (λ _. (refl, refl)))
refuses (check_tags p out) s = at_none abif (check_tags p out) s (tags_refuses AtNone ten s (refl, refl) p (length out))
refuses (of c) s = at_none abif (of c) s (file_refuses c s)
refuses (opened p n c) s = at_none abif (opened p n c) s (opened_refuses AtNone ten s p n (file_call c).checks (file_refuses c s))

pub abif_ends : (c : Call) (file : Part) → Ends abif c file
abif_ends = ends abif refuses

pub lists_are_entries : ListsAreEntries
lists_are_entries s room es w =
    let g = entries_of s room es w in
    record { each = g.0; all = g.1 }

pub opened_as_file : OpenedAsFile
opened_as_file s = (λ p n h. record { same = λ c. later_with (file_call c).checks s p n h; other = λ q m f c. later_other (file_call c).checks s p n h q m f }, λ k e h p n c. later_unopened (file_call c).checks s k e p n h)
