-- The reads that the bulk call answers are those of the call for one.
use Prim.Native.Nat.{ℕ, zero, suc, ◌+◌, ◌-◌, ◌*◌, ◌≤◌, ◌<◌}
use mathlib.Core.Path.{◌≡◌, refl, sym, ◌∙◌, ap, subst}
use mathlib.Core.Logic.{◌⊎◌, inl, inr}
use mathlib.Core.List.{List, [], ◌∷◌}
use mathlib.Core.Bool.{Bool, true, false}
use native.Mathlib.Omega.{arith}
use lib.Dec.{leb}
use lib.ListN.{length, take, drop, get_or, length-drop}
use lib.Seq.{drop-drop}
use borrow.Author.Tests.{leb-true, leb-false}
use Rattle.reading.specs.Check.{Answer, passed, ok, refused, run, answer, holds}
use Rattle.reading.specs.Bulk.{left_from, fitting, OfItem}
use Rattle.reading.proofs.Cut.{answer_ok}
use Rattle.reading.proofs.Steps.{answer_bind}
use Rattle.reading.proofs.Passed.{bind_ok, done_ok, must_ok, need_ok, at_ok, bind_answered}
use Rattle.reading.proofs.bulk.Laws.{answers_from, answers_are, of_item}
use Rattle.reading.proofs.Tests.{number_within}
use Rattle.sff_fields.specs.declared.header.Header.{Header}
use Rattle.sff_fields.specs.declared.parts.Read.{Read}
use Rattle.sff.specs.Header.{header}
use Rattle.sff.specs.Walk.{first_boundary, Passage, walk}
use Rattle.sff_fields.specs.declared.read.ReadHeader.{ReadHeader}
use Rattle.sff.specs.Read.{framing}
use Rattle.sff.specs.Lookup.{read_contents, read_from, read_in, read_reading}
use Rattle.sff.specs.Reads.{reads_at, reads_from, reads_in, reads_reading}
use Rattle.sff.proofs.walk.Laws.{before_is, before_past, next_ok, walk_length}
use Rattle.sff.proofs.walk.Split.{nth}
use Rattle.sff.proofs.lookup.Laws.{in_found, from_contents}
use Rattle.sff.proofs.Refused.{contents_refuses, reads_refuses}
use Rattle.sff.proofs.reads.Laws.{reads_length, reads_within}

-- what has passed where the bulk call answers
record Listed (s : List ℕ) (first room : ℕ) (v : List (Answer Read)) : Type 0 where
  head : Header
  head_ok : answer header s ≡ ok head
  low : 1 ≤ first
  high : first ≤ head.reads
  enough : 17 ≤ room
  walked : Passage
  walked_ok : answer (walk head (first - 1 + fitting 17 (left_from head.reads first) room) 0 (first_boundary head)) s ≡ ok walked
  items : v ≡ reads_at head.flows (take walked.behind.position s) (drop (first - 1) walked.starts)

listed_ok : (s : List ℕ) (first room : ℕ) (v : List (Answer Read)) → answer (reads_reading first room) s ≡ ok v → Listed s first room v
unfolding reads_reading reads_in reads_from holds
listed_ok s first room v w =
    let a = bind_ok header _ s v w in
    let b = bind_ok _ _ s v a.2 in
    let c = bind_ok _ _ s v b.2 in
    let e = bind_ok _ _ s v c.2 in
    let f = bind_ok _ _ s v e.2 in
    let i = number_within first a.0.reads (must_ok _ _ _ s b.0 b.1) in
    let n = need_ok _ _ s f.0 f.1 in
    record {
      head = a.0;
      head_ok = a.1;
      low = i.0;
      high = i.1;
      enough = leb-true 17 room (must_ok _ _ _ s c.0 c.1);
      walked = e.0;
      walked_ok = at_ok 0 _ s e.0 e.1;
      items = sym (done_ok _ v s f.2) ∙ ap (λ (l : List ℕ). reads_at a.0.flows l (drop (first - 1) e.0.starts)) n.1;
    }

-- the reads at places that follow one another
reads_drop : (f : ℕ) (l : List ℕ) (i : ℕ) (ps : List ℕ) → reads_at f l (drop i ps) ≡ drop i (reads_at f l ps)
unfolding reads_at
reads_drop f l zero ps = refl
reads_drop f l (suc i) [] = refl
reads_drop f l (suc i) (p ∷ ps) = reads_drop f l i ps

reads_nth : (f : ℕ) (l : List ℕ) (ps : List ℕ) (k : ℕ) (r : Answer Read) (t : List (Answer Read)) → drop k (reads_at f l ps) ≡ r ∷ t → r ≡ answer (read_from f (get_or ps k 0)) l
unfolding reads_at
reads_nth f l [] zero r t h = let z : ◌≡◌ {A = ℕ} 0 1 = cc in absurd (omega arith)
reads_nth f l [] (suc k) r t h = let z : ◌≡◌ {A = ℕ} 0 1 = cc in absurd (omega arith)
reads_nth f l (p ∷ ps) zero r t h = cc
reads_nth f l (p ∷ ps) (suc k) r t h = reads_nth f l ps k r t h

-- contents are answered or refused with 11
contents_own : (f : ℕ) (d : ReadHeader) (l s : List ℕ) → OfItem (answer (read_contents f d l) s)
contents_own f d l s = of_item _ (contents_refuses (λ n e. (n ≡ 11) × (e ≡ 0)) s (refl, refl) f d l).told

module _ (s : List ℕ) (first room : ℕ) (v : List (Answer Read)) (g : Listed s first room v) where
  abbrev d : Header
  d = g.head

  abbrev n : ℕ
  n = fitting 17 (left_from d.reads first) room

  counted : length v ≡ n
  counted =
      let w = walk_length d s (first - 1 + n) 0 (first_boundary d) g.walked g.walked_ok in
      let l = length-drop (first - 1) g.walked.starts in
      ap length g.items ∙ reads_length d.flows _ (drop (first - 1) g.walked.starts) ∙ omega arith

  -- the items answer as on the file itself
  on_file : v ≡ drop (first - 1) (reads_at d.flows s g.walked.starts)
  on_file = g.items ∙ reads_drop d.flows _ (first - 1) g.walked.starts ∙ ap (λ (l : List (Answer Read)). drop (first - 1) l) (reads_within d s (first - 1 + n) 0 g.walked.behind.position (first_boundary d) g.walked g.walked_ok (omega arith))

  module _ (j : ℕ) (h : j < n) where
    -- read j of the items is read first + j
    item_is : answer (read_from d.flows (get_or g.walked.starts (first - 1 + j) 0)) s ≡ answer (read_reading (first + j)) s
    unfolding read_reading
    item_is =
        let l = g.low in
        let q = nth d s (first - 1 + n) (first - 1 + j) (first_boundary d) g.walked (omega arith) g.walked_ok in
        let e : first - 1 + j ≡ first + j - 1 = omega arith in
        let p = next_ok d 0 q.before.behind s q.read (q.read_ok 0) in
        let z : get_or g.walked.starts (first - 1 + j) 0 ≡ p.skipped.position = q.start ∙ sym p.start in
        let b = before_is d (first + j) s q.before (omega arith) (omega (arith, g.high)) (subst (λ (i : ℕ). answer (walk d i 0 (first_boundary d)) s ≡ ok q.before) e (q.before_ok 0)) in
        let c = in_found d (first + j) s q.before.behind b p.skipped (answer_ok _ s p.skipped p.skip_ok) in
        ap (λ (i : ℕ). answer (read_from d.flows i) s) z ∙ c ∙ bind_answered header (λ x. read_in x (first + j)) s d g.head_ok

  item : (j : ℕ) (r : Answer Read) (l : List (Answer Read)) → drop j v ≡ r ∷ l → r ≡ answer (read_reading (first + j)) s
  item j r l h =
      let e : drop j v ≡ drop (first - 1 + j) (reads_at d.flows s g.walked.starts) = ap (drop j) on_file ∙ drop-drop j (first - 1) _ in
      let m : length v - j ≡ suc (length l) = sym (length-drop j v) ∙ ap length h in
      reads_nth d.flows s g.walked.starts (first - 1 + j) r l (sym e ∙ h) ∙ item_is j (omega (arith, m, counted))

  -- what it answers is its contents' answer
  own : (j : ℕ) → j < n → OfItem (answer (read_reading (first + j)) s)
  own j h =
      let q = nth d s (first - 1 + n) (first - 1 + j) (first_boundary d) g.walked (omega arith) g.walked_ok in
      let p = next_ok d 0 q.before.behind s q.read (q.read_ok 0) in
      let f = subst (λ (i : ℕ). run (framing d.flows i) s ≡ passed q.read.behind.position) (sym q.start) (answer_ok _ s _ p.framing_ok) in
      subst OfItem (from_contents d.flows (get_or g.walked.starts (first - 1 + j) 0) s _ f _ refl ∙ item_is j h) (contents_own d.flows _ _ s)

past_reads : (s : List ℕ) (d : Header) (k : ℕ) → answer header s ≡ ok d → d.reads < k → answer (read_reading k) s ≡ refused 7 0
unfolding read_reading read_in
past_reads s d k h l = simp (answer_bind, h, ← before_past d k s (omega arith) l)

-- where the bulk call answers v
module _ (s : List ℕ) (first room : ℕ) (v : List (Answer Read)) (w : answer (reads_reading first room) s ≡ ok v) where
  pub many_fit : (1 ≤ length v) × (17 * length v ≤ room)
  many_fit =
      let g = listed_ok s first room v w in
      let c = counted s first room v g in
      let l = g.low in
      let h = g.high in
      let e = g.enough in
      (omega arith, omega arith)

  pub many_items : v ≡ answers_from read_reading s first (length v)
  many_items = answers_are read_reading s v first (item s first room v (listed_ok s first room v w))

  pub many_own : (j : ℕ) → j < length v → OfItem (answer (read_reading (first + j)) s)
  many_own j h =
      let g = listed_ok s first room v w in
      own s first room v g j (omega (arith, counted s first room v g))

  -- no read is left, or no record fits behind them
  pub many_all : (room < 17 * suc (length v)) ⊎ (answer (read_reading (first + length v)) s ≡ refused 7 0)
  many_all = go (leb (17 * suc (length v)) room) refl
    where
      go : (b : Bool) → leb (17 * suc (length v)) room ≡ b → (room < 17 * suc (length v)) ⊎ (answer (read_reading (first + length v)) s ≡ refused 7 0)
      go false q = inl (leb-false _ room q)
      go true q =
          let g = listed_ok s first room v w in
          let c = counted s first room v g in
          let l = g.low in
          let h = g.high in
          let k = leb-true _ room q in
          let m : g.head.reads < first + length v = omega arith in
          inr (past_reads s g.head (first + length v) g.head_ok m)

-- 13 only where not one fits
pub many_full : (s : List ℕ) (first room e : ℕ) → answer (reads_reading first room) s ≡ refused 13 e → room < 17
many_full s first room e h = (reads_refuses (λ n _. n ≡ 13 → room < 17) s (λ q. absurd (omega arith)) (λ q. absurd (omega arith)) (λ q. absurd (omega arith)) (λ q. absurd (omega arith)) (λ q. absurd (omega arith)) (λ q. absurd (omega arith)) first room (λ f _. leb-false 17 room f)).told 13 e h refl
