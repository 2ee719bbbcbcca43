-- Items, from the answers of their parts.
use Prim.Native.Nat.{ℕ, ◌+◌, ◌≤◌, ◌<◌, max}
use mathlib.Core.Path.{◌≡◌, refl, sym, ◌∙◌}
use mathlib.Core.List.{List, [], ◌∷◌}
use mathlib.Core.Bool.{Bool, true, false}
use native.Mathlib.Omega.{arith}
use lib.ListN.{length, take}
use lib.Dec.{eqb}
use borrow.Author.Tests.{eqb-true, le-leb, lt-leb}
use Rattle.std.specs.Prelude.{Some, None}
use Rattle.reading.specs.Choice.{pick}
use Rattle.reading.specs.Number.{be, le}
use Rattle.reading.specs.declared.check.Rule.TheVariants.{NotNegative}
use Rattle.reading.specs.Check.{Test, passed, failed, short, ok, holds, run, answer, ◌>>=◌}
use Rattle.reading.proofs.Needed.{reach}
use Rattle.reading.proofs.Steps.{run_bind, run_must, run_done, run_need_present, run_need_absent, reach_must, reach_need, reach_done}
use Rattle.reading.proofs.Cut.{reach_within, answer_ok}
use Rattle.reading.proofs.Passed.{bind_ok, done_ok}
use Rattle.reading.proofs.Reach.{reach_none}
use Rattle.reading.proofs.Width.{byte_le, le_taken}
use Rattle.reading.proofs.Match.{InNone}
use Rattle.gtc.specs.declared.item.Stored.{Stored}
use Rattle.gtc.specs.declared.item.Stored.TheVariants.{Value, Shaped}
use Rattle.gtc.specs.declared.item.Shape.{Shape}
use Rattle.gtc.specs.declared.item.Shape.TheVariants.{Text, Array, SnpArray, Scanner, Block}
use Rattle.reading.specs.declared.item.ItemData.{ItemData}
use Rattle.gtc.specs.declared.entry.Entry.{Entry}
use Rattle.gtc.specs.Item.{Row, listing_in, string_end, scanner_rest, scanner_end, count_field, array_count, item_end, elements_of, snp_check, shape_check, shaped_check, item_check}
use Rattle.gtc.proofs.entry.Laws.{with_none_needed}

-- the arms of a match with one for each row, the last of them first
abbrev pub arms_of : List Row → List (List ℕ) → List (List ℕ)
arms_of [] arms = arms
arms_of (r ∷ rs) arms = arms_of rs ((r.id ∷ []) ∷ arms)

-- what is in no arm has no row
pub no_row_lem : (rs : List Row) (arms : List (List ℕ)) (k : ℕ) → InNone (arms_of rs arms) k → InNone arms k × (None ≡ listing_in rs k)
unfolding listing_in
no_row_lem [] arms k h = (h, refl)
no_row_lem (r ∷ rs) arms k h = go (no_row_lem rs ((r.id ∷ []) ∷ arms) k h) (eqb k r.id) refl
  where
    go : InNone ((r.id ∷ []) ∷ arms) k × (None ≡ listing_in rs k) → (b : Bool) → eqb k r.id ≡ b → InNone arms k × (None ≡ pick b (Some r.stored) (listing_in rs k))
    go u true q = absurd (u.0.1 (eqb-true k r.id q))
    go u false q = (u.0.0, u.1)

-- the count of the array at place p, in the bytes up to its end
count_taken : (s : List ℕ) (p n : ℕ) → n ≡ le 4 s p → le 4 (take (p + 4) s) p ≡ n
count_taken s p n q = le_taken 4 (p + 4) p s (omega arith) ∙ sym q

module _ (s : List ℕ) (p : ℕ) (h : p + 4 ≤ length s) (n : ℕ) (q : n ≡ le 4 s p) where
  pub count_negative : 0x80000000 ≤ n → failed (record { field = count_field p n; rule = NotNegative; number = 9 }) 0 ≡ run (array_count p) s
  unfolding array_count holds
  count_negative l = simp (run_bind, run_need_present p (p + 4) s h, count_taken s p n q, run_must, le-leb 0x80000000 n l)

  pub count_at : n < 0x80000000 → passed n ≡ run (array_count p) s
  unfolding array_count holds
  count_at l = simp (run_bind, run_need_present p (p + 4) s h, count_taken s p n q, run_must, lt-leb 0x80000000 n l, run_done)

pub failed_not : {A : Type 0} {w : Test} {e : ℕ} {a : A} → failed w e ≡ passed a → ⊥
failed_not h = let z : ◌≡◌ {A = ℕ} 0 1 = cc in omega arith

-- the length of the string at place p, in the bytes up to it
length_taken : (s : List ℕ) (p n : ℕ) → n ≡ be 1 s p → le 1 (take (p + 1) s) p ≡ n
length_taken s p n q = le_taken 1 (p + 1) p s (omega arith) ∙ sym (byte_le s p) ∙ sym q

module _ (s : List ℕ) (p : ℕ) where
  pub string_short : length s < p + 1 → short (record { start = p; end = p + 1 }) 0 ≡ run (string_end p) s
  unfolding string_end
  string_short h = simp (run_bind, run_need_absent p (p + 1) s h)

  module _ (h : p + 1 ≤ length s) (n : ℕ) (q : n ≡ be 1 s p) where
    pub string_cut : length s < p + 1 + n → short (record { start = p + 1; end = p + 1 + n }) 0 ≡ run (string_end p) s
    unfolding string_end
    string_cut l = simp (run_bind, run_need_present p (p + 1) s h, length_taken s p n q, run_need_absent (p + 1) (p + 1 + n) s l)

    pub string_at : p + 1 + n ≤ length s → passed (p + 1 + n) ≡ run (string_end p) s
    unfolding string_end
    string_at l = simp (run_bind, run_need_present p (p + 1) s h, length_taken s p n q, run_need_present (p + 1) (p + 1 + n) s l, run_done)

  pub rest_on : p + 8 ≤ length s → run (string_end (p + 8) >>= string_end) s ≡ run (scanner_rest p) s
  unfolding scanner_rest
  rest_on h = simp (run_bind, run_need_present p (p + 4) s (omega arith), run_need_present (p + 4) (p + 8) s h)

-- the end of a string that is there is what its checks need
string_end_lem : (p : ℕ) (s : List ℕ) (e : ℕ) → answer (string_end p) s ≡ ok e → (p < e) × (reach (string_end p) s ≡ e)
unfolding string_end
string_end_lem p s e w =
    let a = bind_ok _ _ s e w in
    let b = bind_ok _ _ s e a.2 in
    let z = done_ok _ e s b.2 in
    (omega arith, simp (a.3, b.3, reach_need, reach_done) (omega arith))

rest_end : (p : ℕ) (s : List ℕ) (e : ℕ) → answer (scanner_rest p) s ≡ ok e → (p < e) × (reach (scanner_rest p) s ≡ e)
unfolding scanner_rest
rest_end p s e w =
    let a = bind_ok _ _ s e w in
    let b = bind_ok _ _ s e a.2 in
    let c = bind_ok _ _ s e b.2 in
    let u = string_end_lem (p + 8) s c.0 c.1 in
    let v = string_end_lem c.0 s e c.2 in
    (omega arith, simp (a.3, b.3, c.3, reach_need, u.1, v.1) (omega arith))

scanner_end_lem : (p : ℕ) (s : List ℕ) (e : ℕ) → answer (scanner_end p) s ≡ ok e → (p < e) × (reach (scanner_end p) s ≡ e)
unfolding scanner_end
scanner_end_lem p s e w =
    let a = bind_ok _ _ s e w in
    let u = string_end_lem p s a.0 a.1 in
    let v = rest_end a.0 s e a.2 in
    (omega arith, simp (a.3, u.1, v.1) (omega arith))

count_need : (p : ℕ) (s : List ℕ) (n : ℕ) → answer (array_count p) s ≡ ok n → reach (array_count p) s ≡ p + 4
unfolding array_count
count_need p s n w =
    let a = bind_ok _ _ s n w in
    let b = bind_ok _ _ s n a.2 in
    simp (a.3, b.3, reach_need, reach_must, reach_done) (omega arith)

elements_end : (w : ℕ) (d : Entry) (n : ℕ) (s : List ℕ) (q : ItemData) → answer (elements_of w d n) s ≡ ok q → (reach (elements_of w d n) s ≡ item_end q) × (d.offset + 4 ≤ item_end q)
unfolding elements_of
elements_end w d n s q h =
    let a = bind_ok _ _ s q h in
    rw (← done_ok _ q s a.2) (simp (a.3, reach_need, reach_done) (omega arith), omega arith)

snp_none : (h : List ℕ) (n p m : ℕ) (s : List ℕ) → reach (snp_check h n p m) s ≡ 0
unfolding snp_check
snp_none h n p m s = reach_none _ _ s (with_none_needed s h n 1) (λ d. reach_must _ _ _ s)

-- the end of an item that is there is what its checks need
shape_end : (k : Shape) (h : List ℕ) (n : ℕ) (d : Entry) (s : List ℕ) (q : ItemData) → answer (shape_check k h n d) s ≡ ok q → reach (shape_check k h n d) s ≡ item_end q
unfolding shape_check
shape_end Text h n d s q w =
    let a = bind_ok _ _ s q w in
    let u = string_end_lem d.offset s a.0 a.1 in
    rw (← done_ok _ q s a.2) (simp (a.3, u.1, reach_done) (omega arith))
shape_end (Array v) h n d s q w =
    let a = bind_ok _ _ s q w in
    let e = elements_end v d a.0 s q a.2 in
    simp (a.3, count_need d.offset s a.0 a.1, e.0) (omega arith)
shape_end (SnpArray v) h n d s q w =
    let a = bind_ok _ _ s q w in
    let b = bind_ok _ _ s q a.2 in
    let e = elements_end v d a.0 s q b.2 in
    simp (a.3, b.3, snp_none, count_need d.offset s a.0 a.1, e.0) (omega arith)
shape_end Scanner h n d s q w =
    let a = bind_ok _ _ s q w in
    let u = scanner_end_lem d.offset s a.0 a.1 in
    rw (← done_ok _ q s a.2) (simp (a.3, u.1, reach_done) (omega arith))
shape_end (Block m) h n d s q w =
    let a = bind_ok _ _ s q w in
    rw (← done_ok _ q s a.2) (simp (a.3, reach_need, reach_done) (omega arith))

-- a value stands in its entry
pub item_end_lem : (v : Stored) (h : List ℕ) (n : ℕ) (d : Entry) (s : List ℕ) (q : ItemData) → answer (item_check v h n d) s ≡ ok q → max (d.place + 6) (reach (item_check v h n d) s) ≡ max (d.place + 6) (item_end q)
unfolding item_check shaped_check
item_end_lem (Shaped k) h n d s q w =
    let a = bind_ok _ _ s q w in
    simp (a.3, reach_must, shape_end k h n d s q a.2) (omega arith)
item_end_lem Value h n d s q w = rw (← done_ok _ q s w) (simp reach_done (omega arith))

pub item_within : (v : Stored) (h : List ℕ) (n : ℕ) (d : Entry) (s : List ℕ) (q : ItemData) → answer (item_check v h n d) s ≡ ok q → item_end q ≤ max (d.place + 6) (length s)
item_within v h n d s q w =
    let e = item_end_lem v h n d s q w in
    let r = reach_within (item_check v h n d) s q (answer_ok (item_check v h n d) s q w) in
    omega arith
