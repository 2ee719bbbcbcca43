-- The refusals of GTC's reading calls. P is what holds of these, their numbers and their entries.
use Prim.Native.Nat.{ℕ, ◌+◌}
use mathlib.Core.List.{List}
use Rattle.reading.proofs.Refused.{Refuses, refuses_done, refuses_must, refuses_need, refuses_bind}
use Rattle.reading.proofs.Entries.{one_refuses, order_refuses}
use Rattle.gtc.specs.declared.entry.Entry.{Entry}
use Rattle.gtc.specs.declared.item.Shape.{Shape}
use Rattle.gtc.specs.declared.item.Shape.TheVariants.{Text, Array, SnpArray, Scanner, Block}
use Rattle.gtc.specs.declared.item.Stored.{Stored}
use Rattle.gtc.specs.declared.item.Stored.TheVariants.{Value, Shaped}
use Rattle.std.specs.Prelude.{Option}
use Rattle.std.specs.Prelude.{Some, None}
use Rattle.gtc.specs.Table.{mark_check, count_check, table, table_end}
use Rattle.gtc.specs.Entry.{has_id, entry_with}
use Rattle.gtc.specs.Item.{listing_of, string_end, scanner_rest, scanner_end, array_count, elements_of, snp_check, shape_check, shaped_check, item_check}
use Rattle.gtc.specs.Judge.{judge_as, judge_entry, judge_table, judging}
use Rattle.gtc.specs.Lookup.{stored_of, lookup_listed, lookup_in, looking_up}

module _ (P : ℕ → ℕ → Type 0) (s : List ℕ) (cut : P 1 0) where
  table_refuses : P 2 0 → P 3 0 → P 4 0 → P 5 0 → Refuses P table s
  unfolding table mark_check count_check
  table_refuses a b c d = search (refuses_bind, refuses_must, refuses_need, refuses_done, cut, a, b, c, d) depth 14

  string_refuses : (p : ℕ) → Refuses P (string_end p) s
  unfolding string_end
  string_refuses p = search (refuses_bind, refuses_need, refuses_done, cut) depth 14

  -- the checks of an item
  module _ (absent : P 7 0) (twice : P 8 0) (count : P 9 0) where
    with_refuses : (h : List ℕ) (n k : ℕ) → Refuses P (entry_with h n k) s
    unfolding entry_with
    with_refuses h n k = refuses_bind P _ _ s (one_refuses (has_id h k) P n s absent twice) (λ i _. refuses_done P _ s)

    shape_refuses : (z : Shape) (h : List ℕ) (n : ℕ) (d : Entry) → Refuses P (shape_check z h n d) s
    unfolding shape_check scanner_end scanner_rest array_count elements_of snp_check
    shape_refuses Text h n d = search (refuses_bind, string_refuses, refuses_done) depth 14
    shape_refuses (Array w) h n d = search (refuses_bind, refuses_must, refuses_need, refuses_done, cut, count) depth 14
    shape_refuses (SnpArray w) h n d = search (refuses_bind, refuses_must, refuses_need, with_refuses, refuses_done, cut, count) depth 14
    shape_refuses Scanner h n d = search (refuses_bind, refuses_need, string_refuses, refuses_done, cut) depth 14
    shape_refuses (Block m) h n d = search (refuses_bind, refuses_need, refuses_done, cut) depth 14

    item_refuses : P 6 0 → (v : Stored) (h : List ℕ) (n : ℕ) (d : Entry) → Refuses P (item_check v h n d) s
    unfolding item_check shaped_check
    item_refuses a Value h n d = refuses_done P _ s
    item_refuses a (Shaped z) h n d = refuses_bind P _ _ s (refuses_must P _ _ 6 s (λ _. a)) (λ _ _. shape_refuses z h n d)

    judged_refuses : P 6 0 → (l : Option Stored) (h : List ℕ) (n i : ℕ) (d : Entry) → Refuses P (judge_as l h n i d) s
    unfolding judge_as
    judged_refuses a None h n i d = refuses_done P _ s
    judged_refuses a (Some v) h n i d = refuses_bind P _ _ s (refuses_must P _ _ 8 s (λ _. twice)) (λ _ _. refuses_bind P _ _ s (item_refuses a v h n d) (λ q _. refuses_done P _ s))

-- judging reports each entry by its number
pub judging_refuses : (P : ℕ → ℕ → Type 0) (s : List ℕ) → ((e : ℕ) → P 1 e) → P 2 0 → P 3 0 → P 4 0 → P 5 0 → ((e : ℕ) → P 6 e) → ((e : ℕ) → P 7 e) → ((e : ℕ) → P 8 e) → ((e : ℕ) → P 9 e) → Refuses P judging s
unfolding judging judge_table judge_entry
judging_refuses P s cut mark version negative many offset absent twice count =
    refuses_bind P _ _ s (table_refuses P s (cut 0) mark version negative many) (λ t _.
    refuses_bind P _ _ s (order_refuses P s (judge_entry t.up_to t.count) (λ i. judged_refuses (λ n _. P n (i + 1)) s (cut (i + 1)) (absent (i + 1)) (twice (i + 1)) (count (i + 1)) (offset (i + 1)) _ t.up_to t.count i _) t.count 0 (table_end t.count)) (λ x _. refuses_done P _ s))

-- the calls that report no entry
module _ (P : ℕ → ℕ → Type 0) (s : List ℕ) (cut : P 1 0) (mark : P 2 0) (version : P 3 0) (negative : P 4 0) (many : P 5 0) (offset : P 6 0) (absent : P 7 0) (twice : P 8 0) (count : P 9 0) (unlisted : P 10 0) where
  pub lookup_refuses : (k : ℕ) → Refuses P (looking_up k) s
  unfolding looking_up lookup_in lookup_listed
  lookup_refuses k =
      refuses_bind P _ _ s (table_refuses P s cut mark version negative many) (λ t _.
      refuses_bind P _ _ s (refuses_must P _ _ 10 s (λ _. unlisted)) (λ _ _.
      refuses_bind P _ _ s (with_refuses P s cut absent twice count t.up_to t.count k) (λ d _. item_refuses P s cut absent twice count offset (stored_of (listing_of k)) _ _ d)))
