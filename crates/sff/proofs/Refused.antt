-- The refusals of SFF's reading calls. P is what holds of these, their numbers and their reads.
use Prim.Native.Nat.{ℕ, zero, suc, ◌+◌, ◌-◌}
use mathlib.Core.Path.{◌≡◌}
use mathlib.Core.Bool.{false}
use mathlib.Core.List.{List}
use lib.Dec.{leb}
use Rattle.reading.specs.Bulk.{left_from, fitting}
use Rattle.reading.specs.Check.{holds}
use Rattle.reading.proofs.Refused.{Refuses, refuses_done, refuses_must, refuses_need, refuses_bind, refuses_pick, refuses_at}
use Rattle.sff_fields.specs.declared.header.Header.{Header}
use Rattle.sff_fields.specs.declared.read.ReadHeader.{ReadHeader}
use Rattle.sff_fields.specs.declared.position.BasePosition.{BasePosition}
use Rattle.sff.specs.declared.walk.Boundary.{Boundary}
use Rattle.sff.specs.Header.{header}
use Rattle.sff_fields.specs.Header.{mark_check, length_check, index_check, front_check}
use Rattle.sff_fields.specs.Read.{read_length_check}
use Rattle.sff.specs.Read.{present_data, present_read, framing}
use Rattle.sff.specs.Walk.{first_boundary, skip_index, next_read, walk, walk_past, before_read}
use Rattle.sff.specs.Judge.{ending, judging_reads, judging}
use Rattle.sff_fields.specs.Clips.{clips_check}
use Rattle.contents.specs.Steps.{steps_check}
use Rattle.sff.specs.Lookup.{read_contents, read_from, read_in, read_reading}
use Rattle.sff.specs.Reads.{reads_from, reads_in, reads_reading}
use Rattle.sff.specs.Flow.{flow_of, flow_reading}

module _ (P : ℕ → ℕ → Type 0) (s : List ℕ) where
  pub contents_refuses : P 11 0 → (f : ℕ) (d : ReadHeader) (l : List ℕ) → Refuses P (read_contents f d l) s
  unfolding read_contents clips_check steps_check
  contents_refuses a f d l = search (refuses_bind, refuses_must, refuses_pick, refuses_done, a) depth 14

  module _ (cut : P 1 0) where
    pub header_refuses : P 2 0 → P 3 0 → P 4 0 → Refuses P header s
    unfolding header front_check mark_check length_check index_check
    header_refuses a b c = search (refuses_bind, refuses_must, refuses_need, refuses_done, cut, a, b, c) depth 14

    present_refuses : P 9 0 → (f p : ℕ) → Refuses P (present_read f p) s
    unfolding present_read present_data read_length_check
    present_refuses a f p = search (refuses_bind, refuses_must, refuses_need, refuses_done, cut, a) depth 14

    read_from_refuses : P 9 0 → P 11 0 → (f p : ℕ) → Refuses P (read_from f p) s
    unfolding read_from
    read_from_refuses a b f p = refuses_bind P _ _ s (present_refuses a f p) (λ r _. contents_refuses b f r.fields r.up_to)

    skip_refuses : (d : Header) (b : Boundary) → Refuses P (skip_index d b) s
    unfolding skip_index
    skip_refuses d b = search (refuses_pick, refuses_bind, refuses_need, refuses_done, cut) depth 14

-- a walk reports each read by its number, and the index at 0
module _ (P : ℕ → ℕ → Type 0) (s : List ℕ) (cut : (e : ℕ) → P 1 e) (length : (e : ℕ) → P 9 e) where
  next_refuses : (d : Header) (i : ℕ) (b : Boundary) → Refuses P (next_read d i b) s
  unfolding next_read framing
  next_refuses d i b =
      refuses_bind P _ _ s (skip_refuses P s (cut 0) d b) (λ c _.
      refuses_bind P _ _ s (refuses_at (λ n _. P n (i + 1)) P (i + 1) _ s (λ n e h. h) (refuses_bind _ _ _ s (present_refuses _ s (cut (i + 1)) (length (i + 1)) d.flows c.position) (λ r _. refuses_done _ _ s))) (λ e _.
      refuses_done P _ s))

  walk_refuses : (d : Header) (n i : ℕ) (b : Boundary) → Refuses P (walk d n i b) s
  unfolding walk
  walk_refuses d zero i b = refuses_done P _ s
  walk_refuses d (suc n) i b = refuses_bind P _ _ s (next_refuses d i b) (λ r _. refuses_bind P _ _ s (walk_refuses d n (i + 1) r.behind) (λ w _. refuses_done P _ s))

  pub judging_refuses : P 2 0 → P 3 0 → P 4 0 → Refuses P judging s
  unfolding judging judging_reads ending
  judging_refuses a b c =
      refuses_bind P _ _ s (header_refuses P s (cut 0) a b c) (λ d _.
      refuses_bind P _ _ s (walk_refuses d d.reads 0 (first_boundary d)) (λ w _.
      refuses_bind P _ _ s (skip_refuses P s (cut 0) d w.behind) (λ e _.
      refuses_bind P _ _ s (refuses_must P _ _ 4 s (λ _. c)) (λ _ _. refuses_done P _ s))))

-- the calls that report no read
module _ (P : ℕ → ℕ → Type 0) (s : List ℕ) (cut : P 1 0) (mark : P 2 0) (version : P 3 0) (field : P 4 0) (absent : P 7 0) (length : P 9 0) where
  walk_at : (d : Header) (n : ℕ) → Refuses (λ k _. P k 0) (walk d n 0 (first_boundary d)) s
  walk_at d n = walk_refuses (λ k _. P k 0) s (λ _. cut) (λ _. length) d n 0 (first_boundary d)

  pub reads_refuses : (first room : ℕ) → (leb 17 room ≡ false → P 13 0) → Refuses P (reads_reading first room) s
  unfolding reads_reading reads_in reads_from holds
  reads_refuses first room full =
      refuses_bind P _ _ s (header_refuses P s cut mark version field) (λ d _.
      refuses_bind P _ _ s (refuses_must P _ _ 7 s (λ _. absent)) (λ _ _.
      refuses_bind P _ _ s (refuses_must P _ _ 13 s full) (λ _ _.
      refuses_bind P _ _ s (refuses_at (λ n _. P n 0) P 0 _ s (λ n e h. h) (walk_at d (first - 1 + fitting 17 (left_from d.reads first) room))) (λ w _.
      refuses_bind P _ _ s (refuses_need P _ _ s cut) (λ l _. refuses_done P _ s)))))

  module _ (contents : P 11 0) where
    pub read_refuses : (k : ℕ) → Refuses P (read_reading k) s
    unfolding read_reading read_in before_read walk_past
    read_refuses k =
        refuses_bind P _ _ s (header_refuses P s cut mark version field) (λ d _.
        refuses_bind P _ _ s (refuses_bind P _ _ s (refuses_must P _ _ 7 s (λ _. absent)) (λ _ _. refuses_at (λ n _. P n 0) P 0 _ s (λ n e h. h) (refuses_bind _ _ _ s (walk_at d (k - 1)) (λ w _. refuses_done _ _ s)))) (λ b _.
        refuses_bind P _ _ s (skip_refuses P s cut d b) (λ c _. read_from_refuses P s cut length contents d.flows c.position)))

    pub flow_refuses : P 12 0 → (k : ℕ) (i : BasePosition) → Refuses P (flow_reading k i) s
    unfolding flow_reading flow_of
    flow_refuses base k i =
        refuses_bind P _ _ s (read_refuses k) (λ r _.
        refuses_bind P _ _ s (refuses_must P _ _ 12 s (λ _. base)) (λ _ _.
        refuses_bind P _ _ s (refuses_need P _ _ s cut) (λ l _. refuses_done P _ s)))
