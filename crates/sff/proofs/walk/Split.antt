-- A walk in two parts, and the read at each place along it.
use Prim.Native.Nat.{ℕ, zero, suc, ◌+◌, ◌-◌, ◌≤◌, ◌<◌}
use mathlib.Core.Path.{◌≡◌, refl, sym, ◌∙◌, ap, subst}
use mathlib.Core.List.{List, [], ◌∷◌, ◌++◌}
use native.Mathlib.Nat.{zero-add, add-zero}
use native.Mathlib.Omega.{arith}
use lib.ListN.{get_or}
use lib.Seq.{get_or-append_seam}
use Rattle.reading.specs.declared.check.Failure.{Failure}
use Rattle.reading.specs.declared.check.Failure.TheVariants.{Failed, Short}
use Rattle.reading.specs.declared.refusal.Refusal.{Refusal}
use Rattle.reading.specs.Answers.{outcome_of_failure}
use Rattle.reading.specs.Check.{Outcome, passed, failed, short, ok, run, answer}
use Rattle.reading.proofs.Steps.{then, answer_bind, answer_done}
use Rattle.reading.proofs.Passed.{bind_ok, done_ok}
use Rattle.sff_fields.specs.declared.header.Header.{Header}
use Rattle.sff.specs.declared.walk.Boundary.{Boundary}
use Rattle.sff.specs.declared.walk.Placed.{Placed}
use Rattle.sff.specs.Walk.{next_read, Passage, walk, walk_past}
use Rattle.sff.proofs.walk.Laws.{past_failed, past_short, past_next, past_end, next_any, walk_any, walk_length}
use Rattle.sff.proofs.walk.Reach.{walk_reach}

-- the first m reads of a walk, and the n behind them
pub record Split (d : Header) (s : List ℕ) (m n : ℕ) (b : Boundary) (w : Passage) : Type 0 where
  pub first : Passage
  pub first_ok : (i : ℕ) → answer (walk d m i b) s ≡ ok first
  pub rest : Passage
  pub rest_ok : (i : ℕ) → answer (walk d n i first.behind) s ≡ ok rest
  pub starts : w.starts ≡ first.starts ++ rest.starts
  pub behind : w.behind ≡ rest.behind

module _ (d : Header) (s : List ℕ) where
  pub walk_split : (m n i : ℕ) (b : Boundary) (w : Passage) → answer (walk d (m + n) i b) s ≡ ok w → Split d s m n b w
  unfolding walk
  walk_split zero n i b w h =
      record {
        first = record { starts = []; behind = b };
        first_ok = λ j. answer_done _ s;
        rest = w;
        rest_ok = λ j. walk_any d s n i j b w (subst (λ (k : ℕ). answer (walk d k i b) s ≡ ok w) (zero-add n) h);
        starts = refl;
        behind = refl;
      }
  walk_split (suc m) n i b w h =
      let q : suc m + n ≡ suc (m + n) = omega arith in
      let a = bind_ok _ _ s w (subst (λ (k : ℕ). answer (walk d k i b) s ≡ ok w) q h) in
      let e = bind_ok _ _ s w a.2 in
      let g = walk_split m n (i + 1) a.0.behind e.0 e.1 in
      let z = done_ok _ w s e.2 in
      record {
        first = record { starts = a.0.start ∷ g.first.starts; behind = g.first.behind };
        first_ok = λ j. simp (answer_bind, next_any d s i j b a.0 a.1, g.first_ok, answer_done);
        rest = g.rest;
        rest_ok = g.rest_ok;
        starts = ap (λ (x : Passage). x.starts) (sym z) ∙ ap (λ (l : List ℕ). a.0.start ∷ l) g.starts;
        behind = ap (λ (x : Passage). x.behind) (sym z) ∙ g.behind;
      }

  -- two walks, one behind the other
  pub walk_join : (m n i : ℕ) (b : Boundary) (v u : Passage) → answer (walk d m i b) s ≡ ok v → answer (walk d n i v.behind) s ≡ ok u → answer (walk d (m + n) i b) s ≡ ok (record { starts = v.starts ++ u.starts; behind = u.behind })
  unfolding walk
  walk_join zero n i b v u h k =
      let z = done_ok _ v s h in
      let q = subst (λ (x : Passage). answer (walk d n i x.behind) s ≡ ok u) (sym z) k in
      subst (λ (j : ℕ). answer (walk d j i b) s ≡ ok (record { starts = v.starts ++ u.starts; behind = u.behind })) (sym (zero-add n)) (q ∙ ap (λ (x : Passage). ok (record { starts = x.starts ++ u.starts; behind = u.behind })) z)
  walk_join (suc m) n i b v u h k =
      let q : suc m + n ≡ suc (m + n) = omega arith in
      let a = bind_ok _ _ s v h in
      let e = bind_ok _ _ s v a.2 in
      let z = done_ok _ v s e.2 in
      let y = subst (λ (x : Passage). answer (walk d n i x.behind) s ≡ ok u) (sym z) k in
      let g = walk_join m n (i + 1) a.0.behind e.0 u e.1 (walk_any d s n i (i + 1) e.0.behind u y) in
      subst (λ (j : ℕ). answer (walk d j i b) s ≡ ok (record { starts = v.starts ++ u.starts; behind = u.behind })) (sym q) (simp (answer_bind, a.1, g, answer_done) (ap (λ (x : Passage). ok (record { starts = x.starts ++ u.starts; behind = u.behind })) z))

  -- the boundary behind n reads: behind the first m, then behind the others
  pub past_plus : (m n i : ℕ) (b : Boundary) → run (walk_past d (m + n) i b) s ≡ then (run (walk_past d m i b) s) (λ c. run (walk_past d n (i + m) c) s)
  past_plus zero n i b = ap (λ (k : ℕ). run (walk_past d k i b) s) (zero-add n) ∙ ap (λ (k : ℕ). run (walk_past d n k b) s) (sym (add-zero i)) ∙ ap (λ (o : Outcome Boundary). then o (λ c. run (walk_past d n (i + 0) c) s)) (past_end d i b s)
  past_plus (suc m) n i b = ap (λ (k : ℕ). run (walk_past d k i b) s) q ∙ go (past_plus m n (i + 1)) (run (next_read d i b) s) refl
    where
      q : suc m + n ≡ suc (m + n)
      q = omega arith

      f : Boundary → Outcome Boundary
      f c = run (walk_past d n (i + suc m) c) s

      go : ((c : Boundary) → run (walk_past d (m + n) (i + 1) c) s ≡ then (run (walk_past d m (i + 1) c) s) (λ x. run (walk_past d n (i + 1 + m) x) s)) → (o : Outcome Placed) → run (next_read d i b) s ≡ o → run (walk_past d (suc (m + n)) i b) s ≡ then (run (walk_past d (suc m) i b) s) f
      go g (passed r) h =
          let e : i + 1 + m ≡ i + suc m = omega arith in
          past_next d i b s r h (i + 1) refl (m + n) ∙ g r.behind ∙ ap (λ (k : ℕ). then (run (walk_past d m (i + 1) r.behind) s) (λ c. run (walk_past d n k c) s)) e ∙ ap (λ (o : Outcome Boundary). then o f) (sym (past_next d i b s r h (i + 1) refl m))
      go g (failed t e) h = past_failed d i b s t e h (m + n) ∙ ap (λ (o : Outcome Boundary). then o f) (sym (past_failed d i b s t e h m))
      go g (short k e) h = past_short d i b s k e h (m + n) ∙ ap (λ (o : Outcome Boundary). then o f) (sym (past_short d i b s k e h m))

  pub past_parts : (m n i : ℕ) (b : Boundary) → m ≤ n → (o : Outcome Boundary) → run (walk_past d m i b) s ≡ o → run (walk_past d n i b) s ≡ then o (λ c. run (walk_past d (n - m) (i + m) c) s)
  past_parts m n i b l o h =
      let q : n ≡ m + (n - m) = omega arith in
      ap (λ (k : ℕ). run (walk_past d k i b) s) q ∙ past_plus m (n - m) i b ∙ ap (λ (x : Outcome Boundary). then x (λ c. run (walk_past d (n - m) (i + m) c) s)) h

  -- what is wrong with the first m reads is wrong with all
  pub parts_wrong : (m n i : ℕ) (b : Boundary) → m ≤ n → (f : Failure Refusal) (e : ℕ) → outcome_of_failure f e ≡ run (walk_past d m i b) s → outcome_of_failure f e ≡ run (walk_past d n i b) s
  parts_wrong m n i b l (Failed t) e h = sym (past_parts m n i b l _ (sym h))
  parts_wrong m n i b l (Short p q) e h = sym (past_parts m n i b l _ (sym h))

  -- read j of a walk, counted from 0: what is walked before it, and the read
  pub record Nth (j : ℕ) (b : Boundary) (w : Passage) : Type 0 where
    pub before : Passage
    pub before_ok : (i : ℕ) → answer (walk d j i b) s ≡ ok before
    pub read : Placed
    pub read_ok : (i : ℕ) → answer (next_read d i before.behind) s ≡ ok read
    pub start : get_or w.starts j 0 ≡ read.start
    pub within : read.behind.position ≤ w.behind.position

  pub nth : (n j : ℕ) (b : Boundary) (w : Passage) → j < n → answer (walk d n 0 b) s ≡ ok w → Nth j b w
  unfolding walk
  nth n j b w l h =
      let q : n ≡ j + suc (n - (j + 1)) = omega arith in
      let g = walk_split j (suc (n - (j + 1))) 0 b w (subst (λ (k : ℕ). answer (walk d k 0 b) s ≡ ok w) q h) in
      let a = bind_ok _ _ s g.rest (g.rest_ok 0) in
      let e = bind_ok _ _ s g.rest a.2 in
      let z = done_ok _ g.rest s e.2 in
      let k = walk_length d s j 0 b g.first (g.first_ok 0) in
      let x : w.starts ≡ g.first.starts ++ (a.0.start ∷ e.0.starts) = g.starts ∙ ap (λ (y : Passage). g.first.starts ++ y.starts) (sym z) in
      let r = walk_reach d s (n - (j + 1)) 1 a.0.behind e.0 e.1 in
      let f : e.0.behind.position ≡ w.behind.position = ap (λ (y : Passage). y.behind.position) z ∙ ap (λ (y : Boundary). y.position) (sym g.behind) in
      record {
        before = g.first;
        before_ok = g.first_ok;
        read = a.0;
        read_ok = λ i. next_any d s 0 i g.first.behind a.0 a.1;
        start = ap (λ (m : List ℕ). get_or m j 0) x ∙ ap (λ (i : ℕ). get_or (g.first.starts ++ (a.0.start ∷ e.0.starts)) i 0) (sym k) ∙ get_or-append_seam g.first.starts a.0.start e.0.starts 0;
        within = omega arith;
      }
