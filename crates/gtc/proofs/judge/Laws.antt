-- Judging, from the answers of its parts.
use Prim.Native.Nat.{ℕ, suc, ◌+◌}
use mathlib.Core.Path.{◌≡◌, ap}
use mathlib.Core.List.{List}
use mathlib.Core.Bool.{Bool, true, false}
use native.Mathlib.Nat.{add_assoc}
use native.Mathlib.Omega.{arith}
use lib.ListN.{length}
use Rattle.reading.specs.declared.check.Rule.TheVariants.{Other}
use Rattle.reading.specs.Choice.{pick}
use Rattle.reading.specs.Number.{le}
use Rattle.reading.specs.Check.{Test, passed, failed, short, refused, run, answer, holds}
use Rattle.reading.specs.Verdict.{with_tail, verdict_of}
use Rattle.reading.specs.Entries.{in_order}
use Rattle.reading.specs.declared.check.Failure.{Failure}
use Rattle.reading.specs.declared.check.Failure.TheVariants.{Failed, Short}
use Rattle.reading.specs.declared.check.Requirement.TheVariants.{NewId}
use Rattle.reading.specs.declared.refusal.Refusal.{Refusal}
use Rattle.reading.specs.Answers.{outcome_of_failure}
use Rattle.reading.proofs.Steps.{run_bind, run_must, run_done}
use Rattle.reading.proofs.Passed.{bind_refused}
use Rattle.gtc.specs.declared.entry.Entry.{Entry}
use Rattle.gtc.specs.declared.item.Stored.{Stored}
use Rattle.std.specs.Prelude.{Option}
use Rattle.std.specs.Prelude.{Some}
use Rattle.reading.specs.declared.item.ItemData.{ItemData}
use Rattle.gtc.specs.Table.{table_end, place_of_entry}
use Rattle.gtc.specs.Entry.{entry_of, id_field}
use Rattle.gtc.specs.Item.{listing_of, is_listed, item_check, item_end}
use Rattle.gtc.specs.Judge.{is_earlier, judge_as, judge_entry, unjudged_among, judge_table, extent_of}

-- one entry more is counted
pub unjudged_on : (h : List ℕ) (u v i m : ℕ) → v ≡ pick (is_listed (listing_of (le 2 h (place_of_entry i)))) 0 1 → u + unjudged_among h (suc m) i ≡ u + v + unjudged_among h m (i + 1)
unfolding unjudged_among
unjudged_on h u v i m q = rw (← q) (simp add_assoc)

-- one entry more, which is counted where it is not listed; t is the count behind it
module _ (h : List ℕ) (u t i m : ℕ) where
  pub unlisted_on : false ≡ is_listed (listing_of (le 2 h (place_of_entry i))) → t ≡ u + 1 → u + unjudged_among h (suc m) i ≡ t + unjudged_among h m (i + 1)
  unfolding unjudged_among
  unlisted_on q e = rw (← q, e) (omega arith)

  pub listed_on : true ≡ is_listed (listing_of (le 2 h (place_of_entry i))) → t ≡ u → u + unjudged_among h (suc m) i ≡ t + unjudged_among h m (i + 1)
  unfolding unjudged_among
  listed_on q e = rw (← q, e) (omega arith)

-- a listed entry
module _ (s h : List ℕ) (n i : ℕ) (v : Stored) (d : Entry) (t : Bool) (qt : t ≡ is_earlier h d.id i) where
  pub listed_twice : t ≡ true → failed (record { field = id_field d; rule = Other NewId false; number = 8 }) 0 ≡ run (judge_as (Some v) h n i d) s
  unfolding judge_as holds
  listed_twice g = simp (run_bind, run_must, ← qt, g)

  module _ (g : t ≡ false) where
    pub listed_failed : (w : Test) → failed w 0 ≡ run (item_check v h n d) s → failed w 0 ≡ run (judge_as (Some v) h n i d) s
    unfolding judge_as holds
    listed_failed w q = simp (run_bind, run_must, ← qt, g, ← q)

    pub listed_short : (p m : ℕ) → short (record { start = p; end = m }) 0 ≡ run (item_check v h n d) s → short (record { start = p; end = m }) 0 ≡ run (judge_as (Some v) h n i d) s
    unfolding judge_as holds
    listed_short p m q = simp (run_bind, run_must, ← qt, g, ← q)

    pub listed_wrong : (f : Failure Refusal) → outcome_of_failure f 0 ≡ run (item_check v h n d) s → outcome_of_failure f 0 ≡ run (judge_as (Some v) h n i d) s
    listed_wrong (Failed w) q = listed_failed _ q
    listed_wrong (Short p m) q = listed_short p m q

    pub listed_end : (q : ItemData) → passed q ≡ run (item_check v h n d) s → passed (item_end q) ≡ run (judge_as (Some v) h n i d) s
    unfolding judge_as holds
    listed_end q e = simp (run_bind, run_must, ← qt, g, ← e, run_done)

-- an entry is judged as its id is listed
pub entry_as : (s h : List ℕ) (n i : ℕ) (d : Entry) → d ≡ entry_of h (place_of_entry i) → (l : Option Stored) → l ≡ listing_of d.id → run (judge_as l h n i d) s ≡ run (judge_entry h n i) s
unfolding judge_entry
entry_as s h n i d e l q = rw (q, e)

-- the answer of judging a table, from the extent
pub table_whole : (s h : List ℕ) (n x u : ℕ) → passed x ≡ run (in_order (judge_entry h n) n 0 (table_end n)) s → u ≡ unjudged_among h n 0 → passed (record { extent = x; unjudged = u }) ≡ run (judge_table h n) s
unfolding judge_table
table_whole s h n x u q v = simp (run_bind, ← q, run_done, v)

-- and from what its entries' checks refuse
pub table_refused : (s h : List ℕ) (n k e : ℕ) → answer (in_order (judge_entry h n) n 0 (table_end n)) s ≡ refused k e → refused k e ≡ verdict_of (judge_table h n) extent_of s
unfolding judge_table
table_refused s h n k e w = ap (with_tail extent_of (length s)) (bind_refused _ _ s k e w)
