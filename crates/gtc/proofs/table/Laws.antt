-- The table's checks, from the answers of their parts.
use Prim.Native.Nat.{ℕ, ◌+◌, ◌*◌, ◌≤◌, ◌<◌}
use mathlib.Core.Path.{◌≡◌, refl, sym, ◌∙◌, ap}
use mathlib.Core.List.{List}
use native.Mathlib.Omega.{arith}
use lib.ListN.{length, take}
use Rattle.reading.specs.Number.{be, le}
use Rattle.reading.specs.Check.{Check, Test, Outcome, passed, failed, short, ok, refused, run, answer, done, ◌>>=◌}
use Rattle.reading.proofs.Steps.{run_bind, run_done, run_need_present, run_need_absent, answer_bind, answer_done}
use Rattle.reading.proofs.Cut.{answer_plain, run_ok}
use Rattle.reading.proofs.Passed.{bind_ok, need_ok, done_ok, bind_answered}
use Rattle.reading.proofs.Width.{byte_le, le_split}
use Rattle.gtc.specs.Table.{Table, header_size, table_end, mark_check, count_check, table}

-- the mark, from its two lower bytes and its upper one
pub mark_bytes : (h : List ℕ) (a b : ℕ) → a ≡ le 2 h 0 → b ≡ be 1 h 2 → a + 65536 * b ≡ le 3 h 0
mark_bytes h a b qa qb =
    let e : le 3 h 0 ≡ le 2 h 0 + le 1 h 2 * 65536 = le_split 2 1 h 0 in
    rw (e, qa, qb, byte_le h 2) (omega arith)

-- the number of entries that the header tells, and what the two groups of tests find
abbrev pub entries : List ℕ → ℕ
entries s = le 4 (take header_size s) 4

abbrev pub identified : List ℕ → Outcome (Unit {0})
identified s = run (mark_check (le 3 (take header_size s) 0) (le 1 (take header_size s) 3)) s

abbrev pub numbered : List ℕ → Outcome (Unit {0})
numbered s = run (count_check (entries s)) s

-- a table of n entries that the file s begins with
abbrev pub table_in : List ℕ → ℕ → Table
table_in s n = record { count = n; up_to = take (table_end n) s }

module _ (s : List ℕ) where
  pub table_short : length s < 8 → short (record { start = 0; end = 8 }) 0 ≡ run table s
  unfolding table
  table_short h = simp (run_bind, run_need_absent 0 8 s h)

  module _ (h : 8 ≤ length s) where
    pub table_mark : (t : Test) → identified s ≡ failed t 0 → failed t 0 ≡ run table s
    unfolding table
    table_mark t m = simp (run_need_present 0 8 s h, run_bind, m)

    module _ (m : identified s ≡ passed tt) where
      pub table_count : (t : Test) → numbered s ≡ failed t 0 → failed t 0 ≡ run table s
      unfolding table
      table_count t k = simp (run_need_present 0 8 s h, run_bind, m, k)

      pub table_cut : numbered s ≡ passed tt → length s < table_end (entries s) → short (record { start = 8; end = table_end (entries s) }) 0 ≡ run table s
      unfolding table
      table_cut k l = simp (run_need_present 0 8 s h, run_bind, m, k, run_need_absent 8 (table_end (entries s)) s l, run_done)

      pub table_whole : numbered s ≡ passed tt → (n e : ℕ) → n ≡ entries s → e ≡ table_end (entries s) → e ≤ length s → passed (record { count = n; up_to = take e s }) ≡ run table s
      unfolding table
      table_whole k n e q r l = rw (q, r) (simp (run_need_present 0 8 s h, run_bind, m, k, run_need_present 8 (table_end (entries s)) s (rw (← r) l), run_done))

close : (s l : List ℕ) (c n : ℕ) (r : Table) → ◌≡◌ {A = Table} (record { count = c; up_to = l }) r → r.count ≡ n → (table_end c ≤ length s) × (l ≡ take (table_end c) s) → (table_end n ≤ length s) × (r ≡ table_in s n)
close s l c n r f g h =
    let e : c ≡ n = ap (λ (t : Table). t.count) f ∙ g in
    let v : ◌≡◌ {A = Table} (record { count = c; up_to = l }) (table_in s n) = rw (h.1, e) in
    (rw (← e) h.0, sym f ∙ v)

-- the table that the checks have found where they answer its number of entries
pub table_found : (s : List ℕ) (t : Table) → answer table s ≡ ok t → (table_end t.count ≤ length s) × (t ≡ table_in s t.count)
unfolding table
table_found s t w =
    let b = bind_ok _ _ s t w in
    let c = bind_ok _ _ s t b.2 in
    let d = bind_ok _ _ s t c.2 in
    let e = bind_ok _ _ s t d.2 in
    close s e.0 _ t.count t (done_ok _ _ s e.2) refl (need_ok _ _ s e.0 e.1)

pub table_at : (s : List ℕ) (n : ℕ) → answer (table >>= (λ t. done t.count)) s ≡ ok n → (table_end n ≤ length s) × (answer table s ≡ ok (table_in s n))
table_at s n w =
    let a = bind_ok table (λ t. done t.count) s n w in
    let f = table_found s a.0 a.1 in
    let e : a.0.count ≡ n = done_ok _ _ s a.2 in
    (rw (← e) f.0, rw (← e) (a.1 ∙ ap ok f.1))

-- what the code has read of the table
module _ (s : List ℕ) where
  pub count_known : (t : Table) → passed t ≡ run table s → answer (table >>= (λ t. done t.count)) s ≡ ok t.count
  count_known t q = simp (answer_bind, run_ok table s t (sym q), answer_done)

  -- a call that begins with the table's checks: refused where they are, else what follows them
  module _ {B : Type 0} (f : Table → Check B) where
    pub after_failed : (t : Test) → failed t 0 ≡ run table s → refused t.number 0 ≡ answer (table >>= f) s
    after_failed t q = simp (answer_bind, answer_plain, ← q)

    pub after_short : (p m : ℕ) → short (record { start = p; end = m }) 0 ≡ run table s → refused 1 0 ≡ answer (table >>= f) s
    after_short p m q = simp (answer_bind, answer_plain, ← q)

    pub after_count : (t : Table) → passed t ≡ run table s → (e : ℕ) → e ≡ table_end t.count → answer (f (record { count = t.count; up_to = take e s })) s ≡ answer (table >>= f) s
    after_count t q e h =
        let a = run_ok table s t (sym q) in
        rw h (bind_answered table f s _ (a ∙ ap ok (table_found s t a).1))
