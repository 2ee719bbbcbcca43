-- What the calls for elements, whole numbers and text need: no more than judging.
use Prim.Native.Nat.{ℕ, ◌≤◌}
use mathlib.Core.Path.{◌≡◌}
use mathlib.Core.List.{List}
use lib.Dec.{eqb}
use Rattle.reading.specs.Choice.{pick}
use Rattle.reading.specs.declared.item.ItemData.{ItemData}
use Rattle.reading.specs.Check.{ok, answer}
use Rattle.reading.proofs.Needed.{reach}
use Rattle.reading.proofs.Reach.{reach_under, reach_must_under, reach_need_under, reach_pick_under, reach_done_under}
use Rattle.abif.specs.Judge.{judging}
use Rattle.abif.proofs.Reach.{lookup_under, found_under}
use Rattle.abif_elements.specs.Element.{date_at, time_at, value_at, element_of, element_reading}
use Rattle.abif_elements.specs.Numbers.{numbers_of_item, numbers_reading}
use Rattle.abif_elements.specs.Text.{p_string, c_string, text_of, text_reading}

date_under : (x : ℕ) (l : List ℕ) (p : ℕ) (s : List ℕ) → reach (date_at l p) s ≤ x
unfolding date_at
date_under x l p s = reach_under x _ _ s (reach_must_under x _ _ _ s) (λ _ _. reach_done_under x _ s)

time_under : (x : ℕ) (l : List ℕ) (p : ℕ) (s : List ℕ) → reach (time_at l p) s ≤ x
unfolding time_at
time_under x l p s = reach_under x _ _ s (reach_must_under x _ _ _ s) (λ _ _. reach_done_under x _ s)

value_under : (x k : ℕ) (l : List ℕ) (p : ℕ) (s : List ℕ) → reach (value_at k l p) s ≤ x
unfolding value_at
value_under x k l p s = search (reach_pick_under, reach_done_under, date_under, time_under) depth 12

-- a call that looks up a tag, then reads the item's bytes
pub element_under : (a b i : ℕ) (s : List ℕ) (x : ℕ) → answer judging s ≡ ok x → reach (element_reading a b i) s ≤ x
unfolding element_reading element_of
element_under a b i s x w =
    reach_under x _ _ s (lookup_under a b s x w) (λ q e.
    reach_under x _ _ s (reach_must_under x _ _ _ s) (λ _ _.
    reach_under x _ _ s (reach_must_under x _ _ _ s) (λ _ _.
    reach_under x _ _ s (reach_need_under x _ _ s (found_under a b s x w q e)) (λ l _.
    value_under x _ l _ s))))

pub numbers_under : (a b i r : ℕ) (s : List ℕ) (x : ℕ) → answer judging s ≡ ok x → reach (numbers_reading a b i r) s ≤ x
unfolding numbers_reading numbers_of_item
numbers_under a b i r s x w =
    reach_under x _ _ s (lookup_under a b s x w) (λ q e.
    reach_under x _ _ s (reach_must_under x _ _ _ s) (λ _ _.
    reach_under x _ _ s (reach_must_under x _ _ _ s) (λ _ _.
    reach_under x _ _ s (reach_must_under x _ _ _ s) (λ _ _.
    reach_under x _ _ s (reach_need_under x _ _ s (found_under a b s x w q e)) (λ l _.
    reach_done_under x _ s)))))

string_under : (x k : ℕ) (q : ItemData) (l s : List ℕ) → reach (pick (eqb k 18) (p_string q l) (c_string q l)) s ≤ x
unfolding p_string c_string
string_under x k q l s = search (reach_pick_under, reach_under, reach_must_under, reach_done_under) depth 12

pub text_under : (a b : ℕ) (s : List ℕ) (x : ℕ) → answer judging s ≡ ok x → reach (text_reading a b) s ≤ x
unfolding text_reading text_of
text_under a b s x w =
    reach_under x _ _ s (lookup_under a b s x w) (λ q e.
    reach_under x _ _ s (reach_must_under x _ _ _ s) (λ _ _.
    reach_under x _ _ s (reach_need_under x _ _ s (found_under a b s x w q e)) (λ l _.
    string_under x q.code q l s)))
