-- What the reading calls of SFF need: judging just the extent that it answers, and no other call more.
use Prim.Native.Nat.{ℕ, ◌+◌, ◌-◌, ◌≤◌, ◌<◌, max, min}
use mathlib.Core.Path.{◌≡◌, sym, ◌∙◌, ap, subst}
use mathlib.Core.List.{List}
use native.Mathlib.Omega.{arith}
use lib.ListN.{length, take, length-take}
use Rattle.reading.specs.Bulk.{left_from, fitting}
use Rattle.reading.specs.Check.{Check, ok, answer, holds, ◌>>=◌}
use Rattle.reading.proofs.Needed.{reach}
use Rattle.reading.proofs.Cut.{answer_same}
use Rattle.reading.proofs.Steps.{reach_done, reach_must, reach_need, reach_at}
use Rattle.reading.proofs.Passed.{bind_ok, done_ok, must_ok, at_ok, ok_inj}
use Rattle.reading.proofs.Reach.{reach_none, reach_under, reach_must_under, reach_need_under, reach_pick_under, reach_done_under}
use Rattle.reading.proofs.Tests.{number_within}
use Rattle.sff_fields.specs.declared.header.Header.{Header}
use Rattle.sff_fields.specs.declared.read.ReadHeader.{ReadHeader}
use Rattle.sff.specs.declared.walk.Boundary.{Boundary}
use Rattle.sff_fields.specs.declared.position.BasePosition.{BasePosition}
use Rattle.sff_fields.specs.declared.parts.Read.{Read}
use Rattle.sff_fields.specs.declared.parts.ReadPart.TheVariants.{Steps}
use Rattle.sff.specs.Header.{header_of, header}
use Rattle.sff_fields.specs.Header.{mark_check, length_check, index_check, front_check}
use Rattle.sff.specs.Read.{framing}
use Rattle.sff_fields.specs.Read.{read_end}
use Rattle.sff_fields.specs.Clips.{clips_check}
use Rattle.contents.specs.Steps.{steps_check}
use Rattle.sff.specs.Walk.{first_boundary, next_read, Passage, walk, walk_past, before_read}
use Rattle.sff.specs.Judge.{ending, judging_reads, judging}
use Rattle.sff.specs.Lookup.{read_contents, read_from, read_in, read_reading}
use Rattle.sff.specs.Reads.{reads_from, reads_in, reads_reading}
use Rattle.sff.specs.Flow.{flow_of, flow_reading}
use Rattle.sff.proofs.header.Laws.{header_known}
use Rattle.sff.proofs.walk.Laws.{next_ok, before_walked, before_is, walk_none}
use Rattle.sff.proofs.walk.Reach.{present_reach, framing_reach, skip_reach, walk_reach}
use Rattle.sff.proofs.walk.Split.{walk_split, Nth, nth}
use Rattle.sff.proofs.lookup.Laws.{number_fits}

front_none : (mark version code : ℕ) (d : Header) (s : List ℕ) → reach (front_check mark version code d) s ≡ 0
unfolding front_check mark_check length_check index_check
front_none mark version code d s = search (reach_none, reach_must) depth 12

last : (r h : ℕ) → r ≡ max 31 h → 31 ≤ h → r ≡ h
last r h q a = omega arith

-- the header's end is the last thing that it needs
header_reach : (s : List ℕ) (d : Header) → answer header s ≡ ok d → reach header s ≡ d.header_length
unfolding header
header_reach s d w =
    let a = bind_ok _ _ s d w in
    let b = bind_ok _ _ s d a.2 in
    let f = bind_ok _ _ s d b.2 in
    let q : (header_of a.0).header_length ≡ d.header_length = ap (λ (x : Header). x.header_length) (done_ok _ d s f.2) in
    let m : reach header s ≡ max 31 (header_of a.0).header_length = simp (a.3, b.3, f.3, front_none, reach_need, reach_done) (omega arith) in
    last _ _ (m ∙ ap (max 31) q) (header_known s d w)

ending_reach : (d : Header) (b : Boundary) (s : List ℕ) (x : ℕ) → answer (ending d b) s ≡ ok x → max b.position (reach (ending d b) s) ≡ x
unfolding ending
ending_reach d b s x w =
    let a = bind_ok _ _ s x w in
    let e = bind_ok _ _ s x a.2 in
    let g = skip_reach d b a.0 s a.1 in
    let k : a.0.position ≡ x = done_ok _ x s e.2 in
    simp (a.3, e.3, reach_must, reach_done) (omega arith)

-- what is known of a whole file with extent x: its header, its reads, and that the boundary behind them lies within the extent
record Whole (s : List ℕ) (x : ℕ) : Type 0 where
  head : Header
  head_ok : answer header s ≡ ok head
  reads : Passage
  reads_ok : answer (walk head head.reads 0 (first_boundary head)) s ≡ ok reads
  extends : reads.behind.position ≤ x
  needs : reach judging s ≡ x
  low : head.header_length ≤ x

whole : (s : List ℕ) (x : ℕ) → answer judging s ≡ ok x → Whole s x
unfolding judging judging_reads
whole s x w =
    let a = bind_ok header _ s x w in
    let b = bind_ok _ _ s x a.2 in
    let h = header_reach s a.0 a.1 in
    let g = walk_reach a.0 s a.0.reads 0 (first_boundary a.0) b.0 b.1 in
    let e = ending_reach a.0 b.0.behind s x b.2 in
    record { head = a.0; head_ok = a.1; reads = b.0; reads_ok = b.1; extends = omega arith; needs = simp (a.3, b.3, h) (omega arith); low = omega arith }

-- the extent is the number of bytes that judging needs
pub extent : (s : List ℕ) (x : ℕ) → answer judging s ≡ ok x → reach judging s ≡ x
extent s x w = (whole s x w).needs

pub header_under : (s : List ℕ) (x : ℕ) → answer judging s ≡ ok x → reach header s ≤ x
header_under s x w =
    let k = whole s x w in
    omega (arith, header_reach s k.head k.head_ok, k.low)

-- a call that begins with the header, on a whole file
after_header : {B : Type 0} (f : Header → Check B) (s : List ℕ) (x : ℕ) (w : answer judging s ≡ ok x) → reach (f (whole s x w).head) s ≤ x → reach (header >>= f) s ≤ x
after_header f s x w h = reach_under x header f s (header_under s x w) (λ d e. subst (λ (y : Header). reach (f y) s ≤ x) (ok_inj (sym (whole s x w).head_ok ∙ e)) h)

-- a read that ends at e needs no more, whatever stands in it
contents_under : (x f : ℕ) (d : ReadHeader) (l s : List ℕ) → reach (read_contents f d l) s ≤ x
unfolding read_contents clips_check steps_check
contents_under x f d l s = search (reach_pick_under, reach_under, reach_must_under, reach_done_under) depth 12

pub from_under : (x f p : ℕ) (s : List ℕ) (e : ℕ) → answer (framing f p) s ≡ ok e → e ≤ x → reach (read_from f p) s ≤ x
unfolding framing read_from
from_under x f p s e w h =
    let a = bind_ok _ _ s e w in
    let g = present_reach f p s a.0 a.1 in
    let k : read_end f a.0.fields ≡ e = done_ok _ e s a.2 in
    reach_under x _ _ s (omega arith) (λ r q. contents_under x f r.fields r.up_to s)

-- the reads of a whole file
module _ (s : List ℕ) (x : ℕ) (k : Whole s x) where
  abbrev d : Header
  d = k.head

  -- the reads before number n pass, and those from it on, within the extent
  record Parts (n : ℕ) : Type 0 where
    before : Passage
    before_ok : answer (walk d (n - 1) 0 (first_boundary d)) s ≡ ok before
    low : max d.header_length (reach (walk d (n - 1) 0 (first_boundary d)) s) ≤ x
    rest : Passage
    rest_ok : (i : ℕ) → answer (walk d (left_from d.reads n) i before.behind) s ≡ ok rest
    within : rest.behind.position ≤ x

  parts : (n : ℕ) → 1 ≤ n → n ≤ d.reads → Parts n
  parts n a b =
      let q : d.reads ≡ n - 1 + left_from d.reads n = omega arith in
      let g = walk_split d s (n - 1) (left_from d.reads n) 0 (first_boundary d) k.reads (subst (λ (m : ℕ). answer (walk d m 0 (first_boundary d)) s ≡ ok k.reads) q k.reads_ok) in
      let u = walk_reach d s (n - 1) 0 (first_boundary d) g.first (g.first_ok 0) in
      let v = walk_reach d s (left_from d.reads n) 0 g.first.behind g.rest (g.rest_ok 0) in
      let z : k.reads.behind.position ≡ g.rest.behind.position = ap (λ (y : Boundary). y.position) g.behind in
      let e = k.extends in
      record { before = g.first; before_ok = g.first_ok 0; low = omega (arith, u, v, z, e); rest = g.rest; rest_ok = g.rest_ok; within = omega (arith, z, e) }

  before_under : (n : ℕ) → reach (before_read d n) s ≤ x
  unfolding before_read walk_past holds
  before_under n =
      reach_under x _ _ s (reach_must_under x _ _ _ s) (λ u q.
      let i = number_within n d.reads (must_ok _ _ 7 s u q) in
      let l = (parts n i.0 i.1).low in
      rw (reach_at 0 (walk_past d (n - 1) 0 (first_boundary d)) s) (reach_under x _ _ s (omega arith) (λ _ _. reach_done_under x _ s)))

  -- the boundary before read n is where the reads before it end
  before_same : (n : ℕ) (b : Boundary) → answer (before_read d n) s ≡ ok b → (p : Parts n) × (p.before.behind ≡ b)
  before_same n b e =
      let g = before_walked d n s b e in
      let p = parts n g.0 g.1 in
      (p, ok_inj (sym (before_is d n s p.before g.0 g.1 p.before_ok) ∙ e))

  -- read j of those from number n on ends within the extent
  nth_within : (n : ℕ) (p : Parts n) (j : ℕ) → j < left_from d.reads n → (q : Nth d s j p.before.behind p.rest) × (q.read.behind.position ≤ x)
  nth_within n p j h =
      let q = nth d s (left_from d.reads n) j p.before.behind p.rest h (p.rest_ok 0) in
      (q, omega (arith, q.within, p.within))

  read_in_under : (n : ℕ) → reach (read_in d n) s ≤ x
  unfolding read_in
  read_in_under n =
      reach_under x _ _ s (before_under n) (λ b e.
      let g = before_walked d n s b e in
      let p = before_same n b e in
      let q = nth_within n p.0 0 (omega arith) in
      let y : q.0.before.behind ≡ b = ap (λ (z : Passage). z.behind) (ok_inj (sym (q.0.before_ok 0) ∙ walk_none d 0 p.0.before.behind s)) ∙ p.1 in
      let o = next_ok d 0 b s q.0.read (subst (λ (z : Boundary). answer (next_read d 0 z) s ≡ ok q.0.read) y (q.0.read_ok 0)) in
      let r = skip_reach d b o.skipped s o.skip_ok in
      let f = from_under x d.flows q.0.read.start s _ o.framing_ok q.1 in
      let m = (framing_reach d.flows q.0.read.start s _ o.framing_ok).1 in
      let t = o.start in
      reach_under x _ _ s (omega (arith, r, m, t, q.1)) (λ c i.
      subst (λ (z : Boundary). reach (read_from d.flows z.position) s ≤ x) (ok_inj (sym o.skip_ok ∙ i)) (subst (λ (z : ℕ). reach (read_from d.flows z) s ≤ x) (sym o.start) f)))

  reads_from_under : (n i : ℕ) → i + n ≤ d.reads → reach (reads_from d n i) s ≤ x
  unfolding reads_from
  reads_from_under n i h =
      let q : d.reads ≡ i + n + (d.reads - (i + n)) = omega arith in
      let g = walk_split d s (i + n) (d.reads - (i + n)) 0 (first_boundary d) k.reads (subst (λ (m : ℕ). answer (walk d m 0 (first_boundary d)) s ≡ ok k.reads) q k.reads_ok) in
      let u = walk_reach d s (i + n) 0 (first_boundary d) g.first (g.first_ok 0) in
      let v = walk_reach d s (d.reads - (i + n)) 0 g.first.behind g.rest (g.rest_ok 0) in
      let z : k.reads.behind.position ≡ g.rest.behind.position = ap (λ (y : Boundary). y.position) g.behind in
      let e = k.extends in
      reach_under x _ _ s (rw (reach_at 0 (walk d (i + n) 0 (first_boundary d)) s) (omega (arith, u, v, z, e))) (λ w o.
      let t : g.first ≡ w = ok_inj (sym (g.first_ok 0) ∙ at_ok 0 _ s w o) in
      let p : w.behind.position ≤ x = subst (λ (y : Passage). y.behind.position ≤ x) t (omega (arith, v, z, e)) in
      reach_under x _ _ s (reach_need_under x _ _ s p) (λ _ _. reach_done_under x _ s))

  reads_in_under : (first room : ℕ) → reach (reads_in d first room) s ≤ x
  unfolding reads_in holds
  reads_in_under first room =
      reach_under x _ _ s (reach_must_under x _ _ _ s) (λ u q.
      let i = number_within first d.reads (must_ok _ _ 7 s u q) in
      reach_under x _ _ s (reach_must_under x _ _ _ s) (λ _ _. reads_from_under (fitting 17 (left_from d.reads first) room) (first - 1) (omega arith)))

pub number_under : (n : ℕ) (s : List ℕ) (x : ℕ) → answer judging s ≡ ok x → reach (read_reading n) s ≤ x
unfolding read_reading
number_under n s x w = after_header (λ d. read_in d n) s x w (read_in_under s x (whole s x w) n)

pub reads_under : (first room : ℕ) (s : List ℕ) (x : ℕ) → answer judging s ≡ ok x → reach (reads_reading first room) s ≤ x
unfolding reads_reading
reads_under first room s x w = after_header (λ d. reads_in d first room) s x w (reads_in_under s x (whole s x w) first room)

-- the steps of a read that is answered lie within the extent
steps_under : (n : ℕ) (s : List ℕ) (x : ℕ) → answer judging s ≡ ok x → (r : Read) → answer (read_reading n) s ≡ ok r → r.steps_start + r.bases ≤ x
steps_under n s x w r e =
    let f = number_fits (take x s) n r (answer_same (read_reading n) x s (number_under n s x w) ∙ e) Steps in
    let l : length (take x s) ≡ min x (length s) = length-take x s in
    omega arith

pub flow_under : (n : ℕ) (i : BasePosition) (s : List ℕ) (x : ℕ) → answer judging s ≡ ok x → reach (flow_reading n i) s ≤ x
unfolding flow_reading flow_of
flow_under n i s x w =
    reach_under x _ _ s (number_under n s x w) (λ r e.
    reach_under x _ _ s (reach_must_under x _ _ _ s) (λ _ _.
    reach_under x _ _ s (reach_need_under x _ _ s (steps_under n s x w r e)) (λ _ _. reach_done_under x _ s)))
