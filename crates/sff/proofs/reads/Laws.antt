-- Reads, from the answers of the walk.
use Prim.Native.Nat.{ℕ, zero, suc, ◌+◌, ◌-◌, ◌*◌, ◌/◌, ◌≤◌, ◌<◌}
use mathlib.Core.Path.{◌≡◌, refl, sym, ◌∙◌, ap, subst}
use mathlib.Core.List.{List, [], ◌∷◌, ◌++◌, append_assoc, append-nil}
use native.Mathlib.Nat.{zero-add}
use native.Mathlib.Omega.{arith}
use lib.ListN.{length, take, drop, length-append, length-drop}
use lib.Seq.{take-length, drop-length, drop-drop, take_at, drop_at}
use borrow.Author.Tests.{le-leb, lt-leb}
use Rattle.reading.specs.declared.check.Failure.{Failure}
use Rattle.reading.specs.declared.check.Failure.TheVariants.{Failed, Short}
use Rattle.reading.specs.declared.refusal.Refusal.{Refusal}
use Rattle.reading.specs.Answers.{outcome_of_failure, refusal_of}
use Rattle.reading.specs.Refusal.{number}
use Rattle.reading.specs.Check.{Test, Need, Outcome, passed, failed, short, Answer, ok, refused, answer_of_outcome, run, answer, holds, done}
use Rattle.reading.specs.Bulk.{left_from, fitting, record_of, records}
use Rattle.reading.proofs.Cut.{run_ok, answer_ok, answer_plain, answer_same}
use Rattle.reading.proofs.Steps.{then, answer_bind, answer_must, answer_done, answer_at, answer_need_present}
use Rattle.reading.proofs.bulk.Laws as Bulk
use Rattle.reading.proofs.Passed.{bind_ok, done_ok, map_refused}
use Rattle.sff_fields.specs.declared.header.Header.{Header}
use Rattle.sff.specs.declared.walk.Boundary.{Boundary}
use Rattle.sff_fields.specs.declared.parts.Read.{Read}
use Rattle.sff.specs.declared.walk.Placed.{Placed}
use Rattle.sff.specs.Walk.{first_boundary, next_read, Passage, walk, walk_past}
use Rattle.sff.specs.Lookup.{read_from}
use Rattle.sff.specs.Private.{Passes, recorded}
use Rattle.sff.specs.Reads.{reads_at, reads_from, reads_in}
use Rattle.sff_fields.specs.Parts.{read_numbers}
use Rattle.sff.proofs.walk.Laws.{next_ok, past_within, walk_within, walk_any, walk_length}
use Rattle.sff.proofs.walk.Reach.{walk_reach}
use Rattle.sff.proofs.walk.Split.{walk_split, walk_join, past_plus}
use Rattle.sff.proofs.Reach.{from_under}

module _ (d : Header) (s : List ℕ) where
  abbrev goes : Outcome Placed → (Boundary → List ℕ) → List ℕ
  goes (passed r) f = r.start ∷ f r.behind
  goes (failed t e) f = []
  goes (short m e) f = []

  -- the places of the reads behind b, up to n, as far as they pass
  pub along : ℕ → Boundary → List ℕ
  along zero b = []
  along (suc n) b = goes (run (next_read d 0 b) s) (along n)

  pub along_next : (b : Boundary) (r : Placed) → run (next_read d 0 b) s ≡ passed r → (m : ℕ) → along (suc m) b ≡ r.start ∷ along m r.behind
  unfolding along
  along_next b r h m = rw h

  pub along_end : (b : Boundary) → along 0 b ≡ []
  unfolding along
  along_end b = refl

  abbrev ends : Boundary → Outcome Placed → (Boundary → Boundary) → Boundary
  ends b (passed r) f = f r.behind
  ends b (failed t e) f = b
  ends b (short m e) f = b

  -- the boundary behind them
  pub farther : ℕ → Boundary → Boundary
  farther zero b = b
  farther (suc n) b = ends b (run (next_read d 0 b) s) (farther n)

  pub farther_next : (b : Boundary) (r : Placed) → run (next_read d 0 b) s ≡ passed r → (m : ℕ) → farther (suc m) b ≡ farther m r.behind
  unfolding farther
  farther_next b r h m = rw h

  pub farther_end : (b : Boundary) → farther 0 b ≡ b
  unfolding farther
  farther_end b = refl

  -- one read of it
  record First (n : ℕ) (b : Boundary) (w : Passage) : Type 0 where
    read : Placed
    passes : run (next_read d 0 b) s ≡ passed read
    rest : Passage
    goes_on : answer (walk d n 0 read.behind) s ≡ ok rest
    all : record { starts = read.start ∷ rest.starts; behind = rest.behind } ≡ w

  first_of : (n : ℕ) (b : Boundary) (w : Passage) → answer (walk d (suc n) 0 b) s ≡ ok w → First n b w
  unfolding walk
  first_of n b w h =
      let a = bind_ok _ _ s w h in
      let e = bind_ok _ _ s w a.2 in
      record {
        read = a.0;
        passes = answer_ok _ s a.0 a.1;
        rest = e.0;
        goes_on = walk_any d s n 1 0 a.0.behind e.0 e.1;
        all = done_ok _ _ s e.2;
      }

  same : (r q : Placed) (o : Outcome Placed) → o ≡ passed r → o ≡ passed q → r ≡ q
  same r q o h k = let z : passed r ≡ passed q = sym h ∙ k in cc

  -- where a walk passes, its next read does, and the walk behind it
  module _ (n j : ℕ) (b : Boundary) (l : j < n) (p : Passes d s (n - j) b) where
    first : First (n - (j + 1)) b p.0
    first =
        let e : n - j ≡ suc (n - (j + 1)) = omega arith in
        first_of (n - (j + 1)) b p.0 (subst (λ (m : ℕ). answer (walk d m 0 b) s ≡ ok p.0) e p.1)

    pub passes_first : (r : Placed) × (run (next_read d 0 b) s ≡ passed r)
    passes_first = (first.read, first.passes)

    pub passes_next : (r : Placed) → run (next_read d 0 b) s ≡ passed r → Passes d s (n - (j + 1)) r.behind
    passes_next r h = (first.rest, subst (λ (x : Placed). answer (walk d (n - (j + 1)) 0 x.behind) s ≡ ok first.rest) (same _ _ _ first.passes h) first.goes_on)

  -- along a walk that passes lie the places that it gives
  pub along_is : (n : ℕ) (b : Boundary) (w : Passage) → answer (walk d n 0 b) s ≡ ok w → along n b ≡ w.starts
  unfolding along walk
  along_is zero b w h = ap (λ (x : Passage). x.starts) (done_ok _ w s h)
  along_is (suc n) b w h =
      let f = first_of n b w h in
      let e = along_is n f.read.behind f.rest f.goes_on in
      rw f.passes (ap (λ (l : List ℕ). f.read.start ∷ l) e ∙ ap (λ (x : Passage). x.starts) f.all)

  pub farther_is : (n : ℕ) (b : Boundary) (w : Passage) → answer (walk d n 0 b) s ≡ ok w → farther n b ≡ w.behind
  unfolding farther walk
  farther_is zero b w h = ap (λ (x : Passage). x.behind) (done_ok _ w s h)
  farther_is (suc n) b w h =
      let f = first_of n b w h in
      rw f.passes (farther_is n f.read.behind f.rest f.goes_on ∙ ap (λ (x : Passage). x.behind) f.all)

-- what passes neither fails nor is cut short
module _ (r : Placed) (o : Outcome Placed) (h : o ≡ passed r) where
  pub not_failed : (t : Test) (e : ℕ) → o ≡ failed t e → ⊥
  not_failed t e k =
      let z : ◌≡◌ {A = Outcome Placed} (failed t e) (passed r) = sym k ∙ h in
      let y : ◌≡◌ {A = ℕ} 0 1 = cc in
      omega arith

  pub not_short : (m : Need) (e : ℕ) → o ≡ short m e → ⊥
  not_short m e k =
      let z : ◌≡◌ {A = Outcome Placed} (short m e) (passed r) = sym k ∙ h in
      let y : ◌≡◌ {A = ℕ} 0 1 = cc in
      omega arith

-- what a walk over n reads has passed
pub passage : (d : Header) (n i : ℕ) (b : Boundary) (s : List ℕ) (c : Boundary) → run (walk_past d n i b) s ≡ passed c → (w : Passage) × (answer (walk d n i b) s ≡ ok w) × (w.behind ≡ c)
unfolding walk_past
passage d n i b s c h = let a = bind_ok (walk d n i b) (λ w. done w.behind) s c (run_ok _ s c h) in (a.0, a.1, done_ok _ c s a.2)

-- what is answered of reads one behind the other
module _ (f : ℕ) (l : List ℕ) where
  pub reads_length : (ps : List ℕ) → length (reads_at f l ps) ≡ length ps
  unfolding reads_at
  reads_length [] = refl
  reads_length (p ∷ ps) = ap suc (reads_length ps)

pub records_length : (v : List (Answer Read)) → length (records 17 read_numbers v) ≡ 17 * length v
records_length = Bulk.records_length 17 read_numbers (omega arith) (λ _. refl)

-- the records of reads that a walk passes, of which m numbers are left
module _ (d : Header) (s : List ℕ) where
  abbrev pub numbers_left : Boundary → ℕ → List ℕ
  numbers_left b m = records 17 read_numbers (reads_at d.flows s (along d s (m / 17) b))

  pub numbers_next : (b : Boundary) (r : Placed) → run (next_read d 0 b) s ≡ passed r → (a : Answer Read) → a ≡ answer (read_from d.flows r.start) s → (m : ℕ) → numbers_left b (17 + m) ≡ record_of 17 read_numbers a ++ numbers_left r.behind m
  unfolding reads_at
  numbers_next b r h a e m =
      let q : (17 + m) / 17 ≡ suc (m / 17) = omega arith in
      rw (q, along_next d s b r h (m / 17), e)

  pub numbers_none : (b : Boundary) → numbers_left b 0 ≡ []
  unfolding reads_at
  numbers_none b = rw (along_end d s b)

  -- the bytes behind a walk play no part in what is answered of its reads
  pub reads_within : (n i m : ℕ) (b : Boundary) (w : Passage) → answer (walk d n i b) s ≡ ok w → w.behind.position ≤ m → reads_at d.flows (take m s) w.starts ≡ reads_at d.flows s w.starts
  unfolding walk reads_at
  reads_within zero i m b w h l =
      let z = done_ok _ w s h in
      ap (λ (x : Passage). reads_at d.flows (take m s) x.starts) (sym z) ∙ ap (λ (x : Passage). reads_at d.flows s x.starts) z
  reads_within (suc n) i m b w h l =
      let a = bind_ok _ _ s w h in
      let e = bind_ok _ _ s w a.2 in
      let z = done_ok _ w s e.2 in
      let y : e.0.behind.position ≡ w.behind.position = ap (λ (x : Passage). x.behind.position) z in
      let k = next_ok d i b s a.0 a.1 in
      let r = walk_reach d s n (i + 1) a.0.behind e.0 e.1 in
      let g = answer_same (read_from d.flows a.0.start) m s (from_under m d.flows a.0.start s _ k.framing_ok (omega arith)) in
      let t = reads_within n (i + 1) m a.0.behind e.0 e.1 (omega arith) in
      subst (λ (x : Passage). reads_at d.flows (take m s) x.starts ≡ reads_at d.flows s x.starts) z (λ j. g j ∷ t j)

-- reads that a walk passes in two parts, of which the first is not the longer: as many of the second, and the rest behind them
pub record Halves (d : Header) (s : List ℕ) (m n : ℕ) (b c : Boundary) : Type 0 where
  pub one : Passage
  pub one_ok : answer (walk d m 0 b) s ≡ ok one
  pub other : Passage
  pub other_ok : answer (walk d m 0 c) s ≡ ok other
  pub rest : Passage
  pub rest_ok : answer (walk d (n - m - m) 0 other.behind) s ≡ ok rest
  pub all : (w : Passage) → answer (walk d n 0 b) s ≡ ok w → w.starts ≡ one.starts ++ (other.starts ++ rest.starts)
  pub within : c.position ≤ length s → other.behind.position ≤ length s

same_passage : (w v : Passage) (a : Answer Passage) → a ≡ ok w → a ≡ ok v → w ≡ v
same_passage w v a h k = let z : ok w ≡ ok v = sym h ∙ k in cc

pub halves : (d : Header) (s : List ℕ) (m n : ℕ) (b c : Boundary) → m + m ≤ n → (w : Passage) → answer (walk d m 0 b) s ≡ ok w → w.behind ≡ c → (v : Passage) → answer (walk d (n - m) 0 c) s ≡ ok v → Halves d s m n b c
halves d s m n b c l w h e v k =
    let x : n - m ≡ m + (n - m - m) = omega arith in
    let y : m + (n - m) ≡ n = omega arith in
    let g = walk_split d s m (n - m - m) 0 c v (subst (λ (j : ℕ). answer (walk d j 0 c) s ≡ ok v) x k) in
    let j = subst (λ (t : ℕ). answer (walk d t 0 b) s ≡ ok (record { starts = w.starts ++ v.starts; behind = v.behind })) y (walk_join d s m (n - m) 0 b w v h (subst (λ (z : Boundary). answer (walk d (n - m) 0 z) s ≡ ok v) (sym e) k)) in
    record {
      one = w;
      one_ok = h;
      other = g.first;
      other_ok = g.first_ok 0;
      rest = g.rest;
      rest_ok = g.rest_ok 0;
      all = λ u r. ap (λ (z : Passage). z.starts) (same_passage u _ _ r j) ∙ ap (λ (z : List ℕ). w.starts ++ z) g.starts;
      within = λ r. walk_within d s m 0 c r g.first (g.first_ok 0);
    }

-- the records of reads one behind the other
records_append : (f : ℕ) (l ps qs : List ℕ) → records 17 read_numbers (reads_at f l (ps ++ qs)) ≡ records 17 read_numbers (reads_at f l ps) ++ records 17 read_numbers (reads_at f l qs)
unfolding reads_at
records_append f l [] qs = refl
records_append f l (p ∷ ps) qs = ap (λ (x : List ℕ). record_of 17 read_numbers (answer (read_from f p) l) ++ x) (records_append f l ps qs) ∙ sym (append_assoc (record_of 17 read_numbers (answer (read_from f p) l)) (records 17 read_numbers (reads_at f l ps)) (records 17 read_numbers (reads_at f l qs)))

-- a list whose front is written, and then what lies behind that
written_behind : (a e o x y : List ℕ) (h k : ℕ) → length a ≡ h → h ≤ length x → x ≡ a ++ drop h o → y ≡ e ++ drop k (take (length x - h) (drop h x)) → take h x ++ (y ++ drop (length x - h) (drop h x)) ≡ (a ++ e) ++ drop (h + k) o
written_behind a e o x y h k l r f g =
    let z : length (drop h x) ≡ length x - h = length-drop h x in
    let t : take h x ≡ a = ap (take h) f ∙ take_at a (drop h o) h l in
    let u : drop h x ≡ drop h o = ap (drop h) f ∙ drop_at a (drop h o) h l in
    let v : take (length x - h) (drop h x) ≡ drop h o = ap (λ (j : ℕ). take j (drop h x)) (sym z) ∙ take-length (drop h x) ∙ u in
    let w : drop (length x - h) (drop h x) ≡ [] = ap (λ (j : ℕ). drop j (drop h x)) (sym z) ∙ drop-length (drop h x) in
    rw (w, t, g, v, drop-drop k h o) (simp (append_assoc, append-nil))

-- the lent list after both halves are written, and then the rest
module _ (d : Header) (s : List ℕ) (m n : ℕ) (b c : Boundary) (a : Halves d s m n b c) (l : m + m ≤ n) (o x y : List ℕ) (r : 17 * n ≤ length x) where
  recorded_length : (k : ℕ) (e : Boundary) (w : Passage) → answer (walk d k 0 e) s ≡ ok w → length (recorded d s w) ≡ 17 * k
  recorded_length k e w h =
      let p = records_length (reads_at d.flows s w.starts) in
      let q = reads_length d.flows s w.starts in
      let t = walk_length d s k 0 e w h in
      p ∙ ap (λ (j : ℕ). 17 * j) (q ∙ t)

  pub halves_written : x ≡ recorded d s a.one ++ (recorded d s a.other ++ drop (17 * m + 17 * m) o) → y ≡ recorded d s a.rest ++ drop (17 * (n - m - m)) (take (length x - (17 * m + 17 * m)) (drop (17 * m + 17 * m) x)) → (w : Passage) → answer (walk d n 0 b) s ≡ ok w → take (17 * m + 17 * m) x ++ (y ++ drop (length x - (17 * m + 17 * m)) (drop (17 * m + 17 * m) x)) ≡ recorded d s w ++ drop (17 * n) o
  halves_written f g w h =
      let p = recorded_length m b a.one a.one_ok in
      let q = recorded_length m c a.other a.other_ok in
      let e : length (recorded d s a.one ++ recorded d s a.other) ≡ 17 * m + 17 * m = length-append (recorded d s a.one) (recorded d s a.other) ∙ ap (λ (j : ℕ). j + length (recorded d s a.other)) p ∙ ap (λ (j : ℕ). 17 * m + j) q in
      let k : 17 * m + 17 * m + 17 * (n - m - m) ≡ 17 * n = omega arith in
      let z = written_behind (recorded d s a.one ++ recorded d s a.other) (recorded d s a.rest) o x y (17 * m + 17 * m) (17 * (n - m - m)) e (omega arith) (f ∙ sym (append_assoc (recorded d s a.one) (recorded d s a.other) (drop (17 * m + 17 * m) o))) g in
      let t : recorded d s w ≡ (recorded d s a.one ++ recorded d s a.other) ++ recorded d s a.rest = ap (λ (u : List ℕ). records 17 read_numbers (reads_at d.flows s u)) (a.all w h) ∙ records_append d.flows s a.one.starts (a.other.starts ++ a.rest.starts) ∙ ap (λ (u : List ℕ). recorded d s a.one ++ u) (records_append d.flows s a.other.starts a.rest.starts) ∙ sym (append_assoc (recorded d s a.one) (recorded d s a.other) (recorded d s a.rest)) in
      z ∙ ap (λ (j : ℕ). ((recorded d s a.one ++ recorded d s a.other) ++ recorded d s a.rest) ++ drop j o) k ∙ ap (λ (j : List ℕ). j ++ drop (17 * n) o) (sym t)

-- n reads from read i on, from the walks up to read i and over them
module _ (d : Header) (n i : ℕ) (s : List ℕ) where
  walk_refused : (k e : ℕ) → answer (walk_past d (i + n) 0 (first_boundary d)) s ≡ refused k e → refused k 0 ≡ answer (reads_from d n i) s
  unfolding reads_from walk_past
  walk_refused k e h = simp (answer_bind, answer_at, map_refused (walk d (i + n) 0 (first_boundary d)) (λ w. w.behind) s k e h)

  pub first_failed : (t : Test) (e : ℕ) → run (walk_past d i 0 (first_boundary d)) s ≡ failed t e → refused t.number 0 ≡ answer (reads_from d n i) s
  first_failed t e h = walk_refused t.number e (answer_plain _ s ∙ ap answer_of_outcome (past_plus d s i n 0 (first_boundary d) ∙ ap (λ (o : Outcome Boundary). then o (λ c. run (walk_past d n (0 + i) c) s)) h))

  pub first_short : (m : Need) (e : ℕ) → run (walk_past d i 0 (first_boundary d)) s ≡ short m e → refused 1 0 ≡ answer (reads_from d n i) s
  first_short m e h = walk_refused 1 e (answer_plain _ s ∙ ap answer_of_outcome (past_plus d s i n 0 (first_boundary d) ∙ ap (λ (o : Outcome Boundary). then o (λ c. run (walk_past d n (0 + i) c) s)) h))

  pub first_wrong : (f : Failure Refusal) (e : ℕ) → outcome_of_failure f e ≡ run (walk_past d i 0 (first_boundary d)) s → refused (number (refusal_of f)) 0 ≡ answer (reads_from d n i) s
  first_wrong (Failed t) e h = first_failed _ e (sym h)
  first_wrong (Short p m) e h = first_short _ e (sym h)

  module _ (b : Boundary) (h : run (walk_past d i 0 (first_boundary d)) s ≡ passed b) where
    both : run (walk_past d (i + n) 0 (first_boundary d)) s ≡ run (walk_past d n i b) s
    both = past_plus d s i n 0 (first_boundary d) ∙ ap (λ (o : Outcome Boundary). then o (λ c. run (walk_past d n (0 + i) c) s)) h ∙ ap (λ (j : ℕ). run (walk_past d n j b) s) (zero-add i)

    pub then_failed : (t : Test) (e : ℕ) → run (walk_past d n i b) s ≡ failed t e → refused t.number 0 ≡ answer (reads_from d n i) s
    then_failed t e k = walk_refused t.number e (answer_plain _ s ∙ ap answer_of_outcome (both ∙ k))

    pub then_short : (m : Need) (e : ℕ) → run (walk_past d n i b) s ≡ short m e → refused 1 0 ≡ answer (reads_from d n i) s
    then_short m e k = walk_refused 1 e (answer_plain _ s ∙ ap answer_of_outcome (both ∙ k))

    pub then_wrong : (f : Failure Refusal) (e : ℕ) → outcome_of_failure f e ≡ run (walk_past d n i b) s → refused (number (refusal_of f)) 0 ≡ answer (reads_from d n i) s
    then_wrong (Failed t) e k = then_failed _ e (sym k)
    then_wrong (Short p m) e k = then_short _ e (sym k)

    module _ (c : Boundary) (k : run (walk_past d n i b) s ≡ passed c) (u : d.header_length ≤ length s) where
      -- the walk over the n reads
      pub over : (w : Passage) × (answer (walk d n 0 b) s ≡ ok w)
      over = let q = passage d n i b s c k in (q.0, walk_any d s n i 0 b q.0 q.1)

      pub reads_answered : answer (reads_from d n i) s ≡ ok (reads_at d.flows s over.0.starts)
      unfolding reads_from
      reads_answered =
          let p = passage d i 0 (first_boundary d) s b h in
          let w = over.0 in
          let v = subst (λ (x : Boundary). answer (walk d n 0 x) s ≡ ok w) (sym p.2) over.1 in
          let j = walk_join d s i n 0 (first_boundary d) p.0 w p.1 v in
          let l = past_within d s i 0 (first_boundary d) b u h in
          let m = walk_within d s n 0 b l w over.1 in
          let t : drop i (p.0.starts ++ w.starts) ≡ w.starts = drop_at p.0.starts w.starts i (walk_length d s i 0 (first_boundary d) p.0 p.1) in
          simp (answer_bind, answer_at, j, answer_need_present 0 w.behind.position s m, answer_done, t) (ap ok (reads_within d s n 0 w.behind.position b w over.1 (omega arith)))

      pub reads_counted : length (reads_at d.flows s over.0.starts) ≡ n
      reads_counted = reads_length d.flows s over.0.starts ∙ walk_length d s n 0 b over.0 over.1

-- the reads from number `first` on, from the tests of that number and of the room
module _ (d : Header) (first room : ℕ) (s : List ℕ) where
  pub in_none : first < 1 → refused 7 0 ≡ answer (reads_in d first room) s
  unfolding reads_in holds
  in_none h = simp (answer_bind, answer_must, lt-leb 1 first h)

  module _ (h : 1 ≤ first) where
    pub in_past : d.reads < first → refused 7 0 ≡ answer (reads_in d first room) s
    unfolding reads_in holds
    in_past l = simp (answer_bind, answer_must, le-leb 1 first h, lt-leb first d.reads l)

    module _ (l : first ≤ d.reads) where
      pub in_full : room < 17 → refused 13 0 ≡ answer (reads_in d first room) s
      unfolding reads_in holds
      in_full k = simp (answer_bind, answer_must, le-leb 1 first h, le-leb first d.reads l, lt-leb 17 room k)

      pub in_read : 17 ≤ room → (n : ℕ) → n ≡ fitting 17 (left_from d.reads first) room → answer (reads_from d n (first - 1)) s ≡ answer (reads_in d first room) s
      unfolding reads_in holds
      in_read k n e = simp (answer_bind, answer_must, le-leb 1 first h, le-leb first d.reads l, le-leb 17 room k, e)
