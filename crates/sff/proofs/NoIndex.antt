-- A file with no index: what its calls answer, from what its header and its reads are.
use Prim.Native.Nat.{ℕ, zero, suc, ◌+◌, ◌-◌, ◌≤◌, ◌<◌}
use mathlib.Core.Path.{◌≡◌, refl}
use mathlib.Core.List.{List, [], ◌∷◌}
use mathlib.Core.Bool.{true, false}
use native.Mathlib.Omega.{arith}
use lib.ListN.{length, take}
use lib.Dec.{eqb}
use borrow.Author.Tests.{eq-eqb, ne_eqb}
use Rattle.reading.specs.Number.{be}
use Rattle.reading.specs.Check.{ok, refused, answer, holds}
use Rattle.reading.proofs.Steps.{answer_bind, answer_must, answer_done, answer_at, answer_need_present}
use Rattle.sff_fields.specs.declared.header.Header.{Header}
use Rattle.sff_fields.specs.declared.read.ReadHeader.{ReadHeader}
use Rattle.sff.specs.declared.walk.Boundary.{Boundary}
use Rattle.sff_fields.specs.Padding.{padded}
use Rattle.sff.specs.Header.{header_of, header}
use Rattle.sff_fields.specs.Header.{mark_check, length_check, index_check, front_check}
use Rattle.sff.specs.Read.{read_header_of, PresentRead, present_data, present_read, framing}
use Rattle.sff_fields.specs.Read.{data_start, read_end, steps_start, read_length_check}
use Rattle.sff.specs.Walk.{first_boundary, skip_index, next_read, Passage, walk, before_read}
use Rattle.sff.specs.Judge.{ending, judging_reads, judging}
use Rattle.sff_fields.specs.Clips.{clips_check}
use Rattle.contents.specs.Steps.{steps_check}
use Rattle.sff.specs.Lookup.{read_contents, read_from, read_in, read_reading}
use Rattle.sff_fields.specs.Parts.{read_of}
use Rattle.sff.proofs.walk.Laws.{before_none, before_past, before_is}
use Rattle.sff.proofs.walk.Split.{walk_join}

-- a header that is sound
pub header_passes : (s : List ℕ) (d : Header) → 31 ≤ length s → header_of (take 31 s) ≡ d → be 4 (take 31 s) 0 ≡ 0x2e736666 → be 4 (take 31 s) 4 ≡ 1 → be 1 (take 31 s) 30 ≡ 1
    → d.header_length ≡ padded (31 + d.flows + d.key_length) → d.index_offset ≡ 0 → d.index_length ≡ 0 → d.header_length ≤ length s → answer header s ≡ ok d
unfolding header front_check mark_check length_check index_check holds
header_passes s d h e m v c l i j k =
    simp (answer_bind, answer_must, answer_done, answer_need_present 0 31 s h, e, m, v, c, eq-eqb _ _ l, i, j, answer_need_present 0 d.header_length s k)

-- a read that is there
pub present_passes : (f p : ℕ) (s : List ℕ) (d : ReadHeader) → p + 16 ≤ length s → read_header_of (take (p + 16) s) p ≡ d → d.start ≡ p → d.header_length ≡ padded (16 + d.name_length) → read_end f d ≤ length s → answer (present_read f p) s ≡ ok (record { fields = d; up_to = take (read_end f d) s })
unfolding present_read holds present_data read_length_check
present_passes f p s d h e a n k =
    let q : data_start d ≤ length s = omega arith in
    simp (answer_bind, answer_must, answer_done, answer_need_present p (p + 16) s h, e, eq-eqb _ _ n, answer_need_present d.start (data_start d) s q, answer_need_present (data_start d) (read_end f d) s k)

pub framing_passes : (f p : ℕ) (s : List ℕ) (r : PresentRead) → answer (present_read f p) s ≡ ok r → answer (framing f p) s ≡ ok (read_end f r.fields)
unfolding framing
framing_passes f p s r h = simp (answer_bind, h, answer_done)

-- its contents
pub read_from_passes : (f p : ℕ) (s l : List ℕ) (d : ReadHeader) → answer (present_read f p) s ≡ ok (record { fields = d; up_to = l }) → answer (clips_check d) s ≡ ok tt → answer (steps_check f l (steps_start f d) d.bases) s ≡ ok tt → answer (read_from f p) s ≡ ok (read_of f d)
unfolding read_from read_contents
read_from_passes f p s l d h c t = simp (answer_bind, h, c, t, answer_done)

-- the checks of a read's contents look at no bytes but those that they are handed
pub clips_any : (d : ReadHeader) (s t : List ℕ) → answer (clips_check d) s ≡ answer (clips_check d) t
unfolding clips_check
clips_any d s t = simp (answer_bind, answer_must)

pub steps_any : (f : ℕ) (l : List ℕ) (p n : ℕ) (s t : List ℕ) → answer (steps_check f l p n) s ≡ answer (steps_check f l p n) t
unfolding steps_check
steps_any f l p zero s t = simp (answer_bind, answer_must, answer_done)
steps_any f l p (suc n) s t = simp (answer_bind, answer_must, ne_eqb (suc n) 0 (λ e. omega arith))

module _ (d : Header) (s : List ℕ) (z : d.index_offset ≡ 0) where
  -- no boundary is the index's
  skip_passes : (b : Boundary) → 0 < b.position → answer (skip_index d b) s ≡ ok b
  unfolding skip_index
  skip_passes b h =
      let n : eqb b.position d.index_offset ≡ false = ne_eqb b.position d.index_offset (λ e. omega arith) in
      simp (n, answer_done)

  pub next_passes : (i e : ℕ) (b : Boundary) → 0 < b.position → answer (framing d.flows b.position) s ≡ ok e → answer (next_read d i b) s ≡ ok (record { start = b.position; behind = record { position = e; met = b.met } })
  unfolding next_read
  next_passes i e b h q = simp (answer_bind, skip_passes b h, answer_at, q, answer_done)

  -- one read more
  pub walk_passes : (m e : ℕ) (v : Passage) → answer (walk d m 0 (first_boundary d)) s ≡ ok v → 0 < v.behind.position → answer (framing d.flows v.behind.position) s ≡ ok e → (w : Passage) × (answer (walk d (m + 1) 0 (first_boundary d)) s ≡ ok w) × (w.behind.position ≡ e)
  unfolding walk
  walk_passes m e v h p q =
      let u : Passage = record { starts = v.behind.position ∷ []; behind = record { position = e; met = v.behind.met } } in
      let one : answer (walk d 1 0 v.behind) s ≡ ok u = simp (answer_bind, next_passes 0 e v.behind p q, answer_done) in
      (_, walk_join d s m 1 0 (first_boundary d) v u h one, refl)

  pub walk_start : (w : Passage) × (answer (walk d 0 0 (first_boundary d)) s ≡ ok w) × (w.behind.position ≡ d.header_length)
  unfolding walk
  walk_start = (_, answer_done _ s, refl)

  module _ (h : answer header s ≡ ok d) where
    -- judging ends behind the last read
    pub judging_passes : (w : Passage) → answer (walk d d.reads 0 (first_boundary d)) s ≡ ok w → 0 < w.behind.position → answer judging s ≡ ok w.behind.position
    unfolding judging judging_reads ending holds
    judging_passes w q p =
        let n : eqb d.index_offset 0 ≡ true = eq-eqb _ _ z in
        simp (answer_bind, h, q, skip_passes w.behind p, answer_must, n, answer_done)

    -- a read by its number
    pub number_passes : (k : ℕ) (v : Passage) (p : ℕ) → k < d.reads → answer (walk d k 0 (first_boundary d)) s ≡ ok v → v.behind.position ≡ p → 0 < p → answer (read_reading (k + 1)) s ≡ answer (read_from d.flows p) s
    unfolding read_reading read_in
    number_passes k v p l q e g =
        let a : k + 1 - 1 ≡ k = omega arith in
        let b : answer (before_read d (k + 1)) s ≡ ok v.behind = before_is d (k + 1) s v (omega arith) (omega arith) (rw a q) in
        simp (answer_bind, h, b, skip_passes v.behind (rw e g), e)

    -- there is no read 0, and none past the stated number
    pub number_none : answer (read_reading 0) s ≡ refused 7 0
    unfolding read_reading read_in
    number_none = simp (answer_bind, h, ← before_none d 0 s (omega arith))

    pub number_past : (k : ℕ) → d.reads < k → answer (read_reading k) s ≡ refused 7 0
    unfolding read_reading read_in
    number_past k l = simp (answer_bind, h, ← before_past d k s (omega arith) l)
