-- The writer's answers, from the answers of its parts.
use Prim.Native.Nat.{ℕ, ◌+◌, ◌*◌, ◌≤◌, ◌<◌}
use mathlib.Core.Path.{◌≡◌, refl, sym, ◌∙◌, ap}
use mathlib.Core.List.{List, []}
use mathlib.Core.Bool.{Bool, true, false}
use native.Mathlib.Omega.{arith}
use lib.ListN.{length}
use borrow.Author.Tests.{le-leb, lt-leb, le-ltb, lt-ltb, leb-true, ltb-true, eqb-true}
use Rattle.reading.specs.Choice.{pick}
use Rattle.reading.specs.Check.{Answer, ok, refused, map_answer, answer, holds}
use Rattle.reading.proofs.Steps.{answer_bind, answer_must, answer_done}
use Rattle.reading.proofs.Passed.{bind_ok, must_ok, done_ok}
use Rattle.sff_fields.specs.declared.read.ReadHeader.{ReadHeader}
use Rattle.sff_fields.specs.Padding.{padding, padded}
use Rattle.sff_fields.specs.Clips.{clips_check}
use Rattle.contents.specs.Steps.{steps_check}
use Rattle.writing.specs.Put.{put}
use Rattle.sff_write.specs.declared.write.Writer.{Writer}
use Rattle.sff_write.specs.Header.{header_size, header_bytes}
use Rattle.sff_write.specs.Read.{GivenRead, header_with, header_for, lengths_check, read_bytes}
use Rattle.sff_fields.specs.Contents.{contents_check}
use Rattle.sff_write.specs.Private.{Fitting}
use Rattle.sff_write.specs.Write.{Piece, behind, written_at, beginning, next_state, adding_fit, adding, finishing}
use Rattle.sff_write.proofs.read.Laws.{fitting, size_is, length_read}

-- what is told of an answer, and what the output then holds
module _ (a : Answer Piece) (p : ℕ) (o : List ℕ) where
  pub told_refused : (n : ℕ) → refused n 0 ≡ a → (refused n 0 ≡ map_answer behind a) × (o ≡ written_at p a o)
  told_refused n e = rw (← e) (refl, refl)

  pub told_ok : (x : Piece) (w : Writer) (l : List ℕ) → ok x ≡ a → w ≡ x.state → l ≡ put o p x.bytes → (ok w ≡ map_answer behind a) × (l ≡ written_at p a o)
  told_ok x w l e q h = rw (← e) (ap ok q, h)

-- a header
module _ (reads : ℕ) (letters key : List ℕ) (room : ℕ) where
  pub begin_flows : 65535 < length letters → refused 9 0 ≡ answer (beginning reads letters key room) []
  unfolding beginning holds
  begin_flows h = simp (answer_bind, answer_must, lt-leb _ _ h)

  module _ (h : length letters ≤ 65535) where
    pub begin_key : 65535 < length key → refused 9 0 ≡ answer (beginning reads letters key room) []
    unfolding beginning holds
    begin_key k = simp (answer_bind, answer_must, le-leb _ _ h, lt-leb _ _ k)

    module _ (k : length key ≤ 65535) (s : ℕ) (e : s ≡ header_size letters key) where
      pub begin_size : 65535 < s → refused 9 0 ≡ answer (beginning reads letters key room) []
      unfolding beginning holds
      begin_size m = simp (answer_bind, answer_must, le-leb _ _ h, le-leb _ _ k, ← e, lt-leb _ _ m)

      module _ (m : s ≤ 65535) where
        pub begin_room : room < s → refused 13 0 ≡ answer (beginning reads letters key room) []
        unfolding beginning holds
        begin_room i = simp (answer_bind, answer_must, le-leb _ _ h, le-leb _ _ k, ← e, le-leb _ _ m, lt-leb _ _ i)

        pub begin_done : s ≤ room → ok (record { bytes = header_bytes reads letters key; state = record { reads = reads; written = 0; flows = length letters; at = header_size letters key } }) ≡ answer (beginning reads letters key room) []
        unfolding beginning holds
        begin_done i = simp (answer_bind, answer_must, answer_done, le-leb _ _ h, le-leb _ _ k, ← e, le-leb _ _ m, le-leb _ _ i)

-- a header that is written
pub begin_written : (reads : ℕ) (letters key o l : List ℕ) (s : ℕ) → length letters ≤ 65535 → length key ≤ 65535 → s ≡ header_size letters key → s ≤ 65535 → s ≤ length o → l ≡ put o 0 (header_bytes reads letters key)
    → (◌≡◌ {A = Answer Writer} (ok (record { reads = reads; written = 0; flows = length letters; at = s })) (map_answer behind (answer (beginning reads letters key (length o)) []))) × (l ≡ written_at 0 (answer (beginning reads letters key (length o)) []) o)
begin_written reads letters key o l s h k e m i q =
    told_ok (answer (beginning reads letters key (length o)) []) 0 o _ (record { reads = reads; written = 0; flows = length letters; at = s }) l (begin_done reads letters key (length o) h k s e m i) (rw e) q

-- what the code has made of a read whose lengths fit: its header fields, its length, and what its contents answer
module _ (f p : ℕ) (r : GivenRead) (fit : Fitting f r) (d : ReadHeader) (e : d ≡ header_for p r) where
  header_length_lem : d.header_length ≡ padded (16 + length r.name)
  unfolding header_with
  header_length_lem = rw e

  pub fit_size : (z : ℕ) → z ≡ padding (2 * length r.flows + 3 * length r.letters) → d.header_length + (2 * length r.flows + 3 * length r.letters) + z ≡ length (read_bytes (header_for p r) r)
  fit_size z q =
      let a = length_read (header_for p r) r fit.steps_agree fit.qualities_agree in
      let b = size_is (2 * length r.flows + 3 * length r.letters) z q in
      omega (arith, header_length_lem)

  pub fit_length : (s o : ℕ) → s ≡ length (read_bytes (header_for p r) r) → p + s ≤ o → p + length (read_bytes d r) ≤ o
  fit_length s o q h = rw (e, ← q) h

  pub fit_answer : (b : Bool) → pick b (ok tt) (refused 11 0) ≡ answer (contents_check d (length r.flows) r.steps) [] → pick b (ok tt) (refused 11 0) ≡ answer (contents_check (header_for p r) f r.steps) []
  fit_answer b q = rw (← e, ← fit.flows_agree) q

-- a read whose lengths fit
module _ (w : Writer) (r : GivenRead) (room : ℕ) (b : Bool) (q : pick b (ok tt) (refused 11 0) ≡ answer (contents_check (header_for w.at r) w.flows r.steps) []) where
  pub fit_contents : b ≡ false → refused 11 0 ≡ answer (adding_fit w r room) []
  unfolding adding_fit
  fit_contents h = simp (answer_bind, ← q, h)

  module _ (h : b ≡ true) where
    pub fit_room : room < w.at + length (read_bytes (header_for w.at r) r) → refused 13 0 ≡ answer (adding_fit w r room) []
    unfolding adding_fit holds
    fit_room k = simp (answer_bind, answer_must, ← q, h, lt-leb _ _ k)

    pub fit_done : w.at + length (read_bytes (header_for w.at r) r) ≤ room → ok (record { bytes = read_bytes (header_for w.at r) r; state = next_state w r }) ≡ answer (adding_fit w r room) []
    unfolding adding_fit holds
    fit_done k = simp (answer_bind, answer_must, answer_done, ← q, h, le-leb _ _ k)

-- a read that is written
pub fit_written : (w : Writer) (r : GivenRead) (o l : List ℕ) (b : Bool) (d : ReadHeader) (s : ℕ) → pick b (ok tt) (refused 11 0) ≡ answer (contents_check (header_for w.at r) w.flows r.steps) [] → b ≡ true → d ≡ header_for w.at r → s ≡ length (read_bytes (header_for w.at r) r) → w.at + s ≤ length o → l ≡ put o w.at (read_bytes d r)
    → (◌≡◌ {A = Answer Writer} (ok (record { reads = w.reads; written = w.written + 1; flows = w.flows; at = w.at + s })) (map_answer behind (answer (adding_fit w r (length o)) []))) × (l ≡ written_at w.at (answer (adding_fit w r (length o)) []) o)
fit_written w r o l b d s q h e n i k =
    told_ok (answer (adding_fit w r (length o)) []) w.at o _ (record { reads = w.reads; written = w.written + 1; flows = w.flows; at = w.at + s }) l (fit_done w r (length o) b q h (rw n at i)) (rw n) (k ∙ ap (λ (x : ReadHeader). put o w.at (read_bytes x r)) e)

-- the next read
module _ (w : Writer) (r : GivenRead) (room : ℕ) where
  pub add_past : w.reads ≤ w.written → refused 9 0 ≡ answer (adding w r room) []
  unfolding adding holds
  add_past h = simp (answer_bind, answer_must, le-ltb _ _ h)

  module _ (h : w.written < w.reads) (b : Bool) (q : pick b (ok tt) (refused 9 0) ≡ answer (lengths_check w.flows r) []) where
    pub add_lengths : b ≡ false → refused 9 0 ≡ answer (adding w r room) []
    unfolding adding holds
    add_lengths k = simp (answer_bind, answer_must, lt-ltb _ _ h, ← q, k)

    pub add_fits : b ≡ true → answer (adding_fit w r room) [] ≡ answer (adding w r room) []
    unfolding adding holds
    add_fits k = simp (answer_bind, answer_must, lt-ltb _ _ h, ← q, k)

    pub add_told : b ≡ true → (x : Answer Writer) (p : ℕ) (l o : List ℕ) → (x ≡ map_answer behind (answer (adding_fit w r room) [])) × (l ≡ written_at p (answer (adding_fit w r room) []) o) → (x ≡ map_answer behind (answer (adding w r room) [])) × (l ≡ written_at p (answer (adding w r room) []) o)
    add_told k x p l o t = rw (← add_fits k) t

-- what a header that was written has passed
pub record Began (reads : ℕ) (letters key : List ℕ) (room : ℕ) (x : Piece) : Type 0 where
  pub fits : header_size letters key ≤ 65535
  pub enough : header_size letters key ≤ room
  pub piece : x ≡ record { bytes = header_bytes reads letters key; state = record { reads = reads; written = 0; flows = length letters; at = header_size letters key } }

pub begin_passed : (reads : ℕ) (letters key : List ℕ) (room : ℕ) (x : Piece) → answer (beginning reads letters key room) [] ≡ ok x → Began reads letters key room x
unfolding beginning holds
begin_passed reads letters key room x h =
    let a = bind_ok _ _ [] x h in
    let b = bind_ok _ _ [] x a.2 in
    let c = bind_ok _ _ [] x b.2 in
    let d = bind_ok _ _ [] x c.2 in
    record { fits = leb-true _ _ (must_ok _ _ _ [] c.0 c.1); enough = leb-true _ _ (must_ok _ _ _ [] d.0 d.1); piece = sym (done_ok _ x [] d.2) }

-- what a read that was written has passed
pub record Added (w : Writer) (r : GivenRead) (room : ℕ) (x : Piece) : Type 0 where
  pub below : w.written < w.reads
  pub fit : Fitting w.flows r
  pub clips : answer (clips_check (header_for w.at r)) [] ≡ ok tt
  pub steps : answer (steps_check w.flows r.steps 0 (length r.steps)) [] ≡ ok tt
  pub enough : w.at + length (read_bytes (header_for w.at r) r) ≤ room
  pub piece : x ≡ record { bytes = read_bytes (header_for w.at r) r; state = next_state w r }

pub add_passed : (w : Writer) (r : GivenRead) (room : ℕ) (x : Piece) → answer (adding w r room) [] ≡ ok x → Added w r room x
unfolding adding adding_fit contents_check holds
add_passed w r room x h =
    let a = bind_ok _ _ [] x h in
    let b = bind_ok _ _ [] x a.2 in
    let c = bind_ok _ _ [] x b.2 in
    let d = bind_ok _ _ [] x c.2 in
    let e = bind_ok _ _ [] c.0 c.1 in
    record {
      below = ltb-true _ _ (must_ok _ _ _ [] a.0 a.1);
      fit = fitting w.flows r [] b.0 b.1;
      clips = e.1;
      steps = e.2;
      enough = leb-true _ _ (must_ok _ _ _ [] d.0 d.1);
      piece = sym (done_ok _ x [] d.2);
    }

-- what a finished file has passed
pub finish_passed : (w : Writer) (x : ℕ) → answer (finishing w) [] ≡ ok x → (w.written ≡ w.reads) × (w.at ≡ x)
unfolding finishing holds
finish_passed w x h =
    let a = bind_ok _ _ [] x h in
    (eqb-true _ _ (must_ok _ _ _ [] a.0 a.1), done_ok _ x [] a.2)
