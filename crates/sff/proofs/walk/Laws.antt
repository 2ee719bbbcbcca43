-- The walk over the reads, from the answers of its parts.
use Prim.Native.Nat.{ℕ, zero, suc, ◌+◌, ◌-◌, ◌≤◌, ◌<◌}
use mathlib.Core.Path.{◌≡◌, refl, sym, ◌∙◌, ap, subst}
use mathlib.Core.List.{List, [], ◌∷◌}
use mathlib.Core.Bool.{Bool, true, false}
use lib.ListN.{length}
use lib.Dec.{eqb}
use borrow.Author.Tests.{eq-eqb, ne_eqb, le-leb, lt-leb}
use Rattle.reading.specs.declared.check.Failure.{Failure}
use Rattle.reading.specs.declared.check.Failure.TheVariants.{Failed, Short}
use Rattle.reading.specs.declared.refusal.Refusal.{Refusal}
use Rattle.reading.specs.Answers.{outcome_of_failure, refusal_of}
use Rattle.reading.specs.Choice.{pick}
use Rattle.reading.specs.Check.{Test, Need, Outcome, passed, failed, short, ok, refused, answer_of_outcome, run, answer, holds, done, need, ◌>>◌}
use Rattle.reading.proofs.Cut.{run_ok, answer_ok, answer_plain}
use Rattle.reading.proofs.Steps.{then, run_bind, run_done, run_at, run_need_present, run_need_absent, answer_bind, answer_must, answer_done, answer_at, answer_at_entry}
use Rattle.reading.specs.Refusal.{number}
use Rattle.reading.proofs.Passed.{bind_ok, done_ok, must_ok, need_ok, at_ok}
use Rattle.reading.proofs.Tests.{number_within}
use Rattle.sff_fields.specs.declared.header.Header.{Header}
use Rattle.sff.specs.declared.walk.Boundary.{Boundary}
use Rattle.sff_fields.specs.Padding.{padded}
use Rattle.sff.specs.Read.{framing}
use Rattle.sff.specs.declared.walk.Placed.{Placed}
use Rattle.sff.specs.Walk.{first_boundary, behind_index, skip_index, next_read, Passage, walk, walk_past, before_read}
use Rattle.sff.proofs.read.Laws.{framing_within}

module _ (d : Header) (b : Boundary) (s : List ℕ) where
  pub skip_none : (b.position ≡ d.index_offset → ⊥) → passed b ≡ run (skip_index d b) s
  unfolding skip_index
  skip_none h = simp (ne_eqb b.position d.index_offset h, run_done)

  module _ (h : b.position ≡ d.index_offset) (e : ℕ) (q : e ≡ b.position + padded d.index_length) where
    pub skip_short : length s < e → short (record { start = b.position; end = e }) 0 ≡ run (skip_index d b) s
    unfolding skip_index
    skip_short l = simp (eq-eqb b.position d.index_offset h, run_bind, ← q, run_need_absent b.position e s l)

    pub skip_index_lem : e ≤ length s → passed (record { position = e; met = true }) ≡ run (skip_index d b) s
    unfolding skip_index
    skip_index_lem l = simp (eq-eqb b.position d.index_offset h, run_bind, ← q, run_need_present b.position e s l, run_done)

  -- a skipped index ends within the file
  pub skip_within : (c : Boundary) → b.position ≤ length s → answer (skip_index d b) s ≡ ok c → c.position ≤ length s
  unfolding skip_index
  skip_within c l w = go (eqb b.position d.index_offset) w
    where
      m : ℕ
      m = b.position + padded d.index_length

      go : (t : Bool) → answer (pick t (need b.position m >> done (behind_index d b)) (done b)) s ≡ ok c → c.position ≤ length s
      go true v =
          let a = bind_ok _ _ s c v in
          subst (λ (x : Boundary). x.position ≤ length s) (done_ok _ _ s a.2) (need_ok _ _ s a.0 a.1).0
      go false v = subst (λ (x : Boundary). x.position ≤ length s) (done_ok _ _ s v) l

  module _ (i : ℕ) where
    -- the read behind, from what the index there and the read itself give
    pub next_cut : (m : Need) → run (skip_index d b) s ≡ short m 0 → short m 0 ≡ run (next_read d i b) s
    unfolding next_read
    next_cut m h = simp (run_bind, h)

    module _ (c : Boundary) (h : passed c ≡ run (skip_index d b) s) where
      pub next_failed : (t : Test) → run (framing d.flows c.position) s ≡ failed t 0 → failed t (i + 1) ≡ run (next_read d i b) s
      unfolding next_read
      next_failed t q = simp (run_bind, ← h, run_at, q)

      pub next_short : (m : Need) → run (framing d.flows c.position) s ≡ short m 0 → short m (i + 1) ≡ run (next_read d i b) s
      unfolding next_read
      next_short m q = simp (run_bind, ← h, run_at, q)

      pub next_wrong : (f : Failure Refusal) → outcome_of_failure f 0 ≡ run (framing d.flows c.position) s → outcome_of_failure f (i + 1) ≡ run (next_read d i b) s
      next_wrong (Failed t) q = next_failed _ (sym q)
      next_wrong (Short p m) q = next_short _ (sym q)

      pub next_passed : (e : ℕ) → passed e ≡ run (framing d.flows c.position) s → passed (record { start = c.position; behind = record { position = e; met = c.met } }) ≡ run (next_read d i b) s
      unfolding next_read
      next_passed e q = simp (run_bind, ← h, run_at, ← q, run_done)

    -- so does the read behind it
    pub next_within : (r : Placed) → answer (next_read d i b) s ≡ ok r → r.behind.position ≤ length s
    unfolding next_read
    next_within r w =
        let a = bind_ok _ _ s r w in
        let e = bind_ok _ _ s r a.2 in
        subst (λ (x : Placed). x.behind.position ≤ length s) (done_ok _ _ s e.2) (framing_within _ _ s e.0 (at_ok (i + 1) _ s e.0 e.1))

-- the walk, from what the next read gives
module _ (d : Header) (i : ℕ) (b : Boundary) (s : List ℕ) where
  pub past_wrong : (f : Failure Refusal) (e : ℕ) → outcome_of_failure f e ≡ run (next_read d i b) s → (m : ℕ) → run (walk_past d (suc m) i b) s ≡ outcome_of_failure f e
  unfolding walk_past walk
  past_wrong (Failed t) e h m = simp (run_bind, ← h)
  past_wrong (Short p n) e h m = simp (run_bind, ← h)

  pub past_failed : (t : Test) (e : ℕ) → run (next_read d i b) s ≡ failed t e → (m : ℕ) → run (walk_past d (suc m) i b) s ≡ failed t e
  unfolding walk_past walk
  past_failed t e h m = simp (run_bind, h)

  pub past_short : (n : Need) (e : ℕ) → run (next_read d i b) s ≡ short n e → (m : ℕ) → run (walk_past d (suc m) i b) s ≡ short n e
  unfolding walk_past walk
  past_short n e h m = simp (run_bind, h)

  pub past_next : (r : Placed) → run (next_read d i b) s ≡ passed r → (j : ℕ) → j ≡ i + 1 → (m : ℕ) → run (walk_past d (suc m) i b) s ≡ run (walk_past d m j r.behind) s
  unfolding walk_past walk
  past_next r h j e m = simp (run_bind, h, run_done, e) (go (run (walk d m (i + 1) r.behind) s))
    where
      go : (o : Outcome Passage) → then (then {B = Passage} o (λ w. passed (record { starts = r.start ∷ w.starts; behind = w.behind }))) (λ w. passed w.behind) ≡ then {B = Boundary} o (λ w. passed w.behind)
      go (passed w) = refl
      go (failed t e) = refl
      go (short n e) = refl

  pub past_end : passed b ≡ run (walk_past d 0 i b) s
  unfolding walk_past walk
  past_end = simp (run_bind, run_done)

pub next_passed_within : (d : Header) (i : ℕ) (b : Boundary) (s : List ℕ) (r : Placed) → run (next_read d i b) s ≡ passed r → r.behind.position ≤ length s
next_passed_within d i b s r h = next_within d b s i r (run_ok _ s r h)

-- and the read starts there
pub next_passed_start : (d : Header) (i : ℕ) (b : Boundary) (s : List ℕ) (r : Placed) → b.position ≤ length s → run (next_read d i b) s ≡ passed r → r.start ≤ length s
unfolding next_read
next_passed_start d i b s r l h =
    let a = bind_ok _ _ s r (run_ok _ s r h) in
    let e = bind_ok _ _ s r a.2 in
    subst (λ (x : Placed). x.start ≤ length s) (done_ok _ _ s e.2) (skip_within d b s a.0 l a.1)

-- and so does the walk
pub walk_within : (d : Header) (s : List ℕ) (n i : ℕ) (b : Boundary) → b.position ≤ length s → (w : Passage) → answer (walk d n i b) s ≡ ok w → w.behind.position ≤ length s
unfolding walk
walk_within d s zero i b l w h = subst (λ (x : Passage). x.behind.position ≤ length s) (done_ok _ _ s h) l
walk_within d s (suc n) i b l w h =
    let a = bind_ok _ _ s w h in
    let e = bind_ok _ _ s w a.2 in
    subst (λ (x : Passage). x.behind.position ≤ length s) (done_ok _ _ s e.2) (walk_within d s n (i + 1) a.0.behind (next_within d b s i a.0 a.1) e.0 e.1)

pub past_within : (d : Header) (s : List ℕ) (n i : ℕ) (b c : Boundary) → b.position ≤ length s → run (walk_past d n i b) s ≡ passed c → c.position ≤ length s
unfolding walk_past
past_within d s n i b c l h =
    let a = bind_ok _ _ s c (run_ok _ s c h) in
    subst (λ (x : Boundary). x.position ≤ length s) (done_ok _ _ s a.2) (walk_within d s n i b l a.0 a.1)

-- what passes where a read does
pub record Passed (d : Header) (b : Boundary) (s : List ℕ) (r : Placed) : Type 0 where
  pub skipped : Boundary
  pub skip_ok : answer (skip_index d b) s ≡ ok skipped
  pub framing_ok : answer (framing d.flows r.start) s ≡ ok r.behind.position
  pub start : skipped.position ≡ r.start

pub next_ok : (d : Header) (i : ℕ) (b : Boundary) (s : List ℕ) (r : Placed) → answer (next_read d i b) s ≡ ok r → Passed d b s r
unfolding next_read
next_ok d i b s r w =
    let a = bind_ok _ _ s r w in
    let e = bind_ok _ _ s r a.2 in
    subst (Passed d b s) (done_ok _ r s e.2) (record { skipped = a.0; skip_ok = a.1; framing_ok = at_ok (i + 1) _ s e.0 e.1; start = refl })

-- the boundary before a read, from what the walk finds
module _ (d : Header) (k : ℕ) (s : List ℕ) where
  pub before_none : k < 1 → refused 7 0 ≡ answer (before_read d k) s
  unfolding before_read holds
  before_none h = simp (answer_bind, answer_must, lt-leb 1 k h)

  module _ (h : 1 ≤ k) where
    pub before_past : d.reads < k → refused 7 0 ≡ answer (before_read d k) s
    unfolding before_read holds
    before_past l = simp (answer_bind, answer_must, le-leb 1 k h, lt-leb k d.reads l)

    module _ (l : k ≤ d.reads) where
      before_walk : answer_at_entry 0 (answer (walk_past d (k - 1) 0 (first_boundary d)) s) ≡ answer (before_read d k) s
      unfolding before_read holds
      before_walk = simp (answer_bind, answer_must, le-leb 1 k h, le-leb k d.reads l, answer_at)

      pub before_outcome : (o : Outcome Boundary) → o ≡ run (walk_past d (k - 1) 0 (first_boundary d)) s → answer_at_entry 0 (answer_of_outcome o) ≡ answer (before_read d k) s
      before_outcome o q = ap (λ (x : Outcome Boundary). answer_at_entry 0 (answer_of_outcome x)) q ∙ ap (answer_at_entry 0) (sym (answer_plain _ s)) ∙ before_walk

      pub before_wrong : (f : Failure Refusal) (e : ℕ) → outcome_of_failure f e ≡ run (walk_past d (k - 1) 0 (first_boundary d)) s → refused (number (refusal_of f)) 0 ≡ answer (before_read d k) s
      before_wrong (Failed t) e q = before_outcome _ q
      before_wrong (Short p m) e q = before_outcome _ q

      pub before_found : (b : Boundary) → passed b ≡ run (walk_past d (k - 1) 0 (first_boundary d)) s → ok b ≡ answer (before_read d k) s
      before_found b q = before_outcome (passed b) q

  -- where there is one, the read is one of the file's, the walk has come there, and the boundary lies within the file
  pub before_walked : (b : Boundary) → answer (before_read d k) s ≡ ok b → (1 ≤ k) × (k ≤ d.reads) × (answer (walk_past d (k - 1) 0 (first_boundary d)) s ≡ ok b)
  unfolding before_read holds
  before_walked b w =
      let a = bind_ok _ _ s b w in
      let n = number_within k d.reads (must_ok _ _ 7 s a.0 a.1) in
      (n.0, n.1, at_ok 0 _ s b a.2)

  pub before_ok : (b : Boundary) → d.header_length ≤ length s → answer (before_read d k) s ≡ ok b → (1 ≤ k) × (k ≤ d.reads) × (b.position ≤ length s)
  before_ok b u w =
      let n = before_walked b w in
      (n.0, n.1, past_within d s (k - 1) 0 (first_boundary d) b u (answer_ok _ s b n.2))

-- the boundary before a read of the file, from what is walked before it
pub before_is : (d : Header) (k : ℕ) (s : List ℕ) (v : Passage) → 1 ≤ k → k ≤ d.reads → answer (walk d (k - 1) 0 (first_boundary d)) s ≡ ok v → answer (before_read d k) s ≡ ok v.behind
unfolding before_read walk_past holds
before_is d k s v h l w = simp (answer_bind, answer_must, le-leb 1 k h, le-leb k d.reads l, answer_at, w, answer_done)

-- a walk over no reads
pub walk_none : (d : Header) (i : ℕ) (b : Boundary) (s : List ℕ) → answer (walk d 0 i b) s ≡ ok (record { starts = []; behind = b })
unfolding walk
walk_none d i b s = answer_done _ s

-- where a read passes, its number plays no part
module _ (d : Header) (s : List ℕ) where
  pub next_any : (i j : ℕ) (b : Boundary) (r : Placed) → answer (next_read d i b) s ≡ ok r → answer (next_read d j b) s ≡ ok r
  unfolding next_read
  next_any i j b r h =
      let a = bind_ok _ _ s r h in
      let e = bind_ok _ _ s r a.2 in
      let q = at_ok (i + 1) _ s e.0 e.1 in
      simp (answer_bind, a.1, answer_at, q, answer_done) (ap ok (done_ok _ _ s e.2))

  pub walk_any : (n i j : ℕ) (b : Boundary) (w : Passage) → answer (walk d n i b) s ≡ ok w → answer (walk d n j b) s ≡ ok w
  unfolding walk
  walk_any zero i j b w h = h
  walk_any (suc n) i j b w h =
      let a = bind_ok _ _ s w h in
      let e = bind_ok _ _ s w a.2 in
      let q = walk_any n (i + 1) (j + 1) a.0.behind e.0 e.1 in
      simp (answer_bind, next_any i j b a.0 a.1, q, answer_done) (ap ok (done_ok _ _ s e.2))

  pub walk_length : (n i : ℕ) (b : Boundary) (w : Passage) → answer (walk d n i b) s ≡ ok w → length w.starts ≡ n
  unfolding walk
  walk_length zero i b w h = subst (λ (x : Passage). length x.starts ≡ 0) (done_ok _ _ s h) refl
  walk_length (suc n) i b w h =
      let a = bind_ok _ _ s w h in
      let e = bind_ok _ _ s w a.2 in
      subst (λ (x : Passage). length x.starts ≡ suc n) (done_ok _ _ s e.2) (ap suc (walk_length n (i + 1) a.0.behind e.0 e.1))
