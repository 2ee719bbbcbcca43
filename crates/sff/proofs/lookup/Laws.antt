-- A read, from the answers of its parts; and where its parts lie.
use Prim.Native.Nat.{ℕ, ◌+◌, ◌*◌, ◌≤◌, max}
use mathlib.Core.Path.{◌≡◌, refl, sym, ◌∙◌, ap, subst}
use mathlib.Core.List.{List}
use mathlib.Core.Bool.{Bool, true, false}
use native.Mathlib.Omega.{arith}
use lib.ListN.{length, take, length-take}
use lib.Dec.{leb, eqb}
use borrow.Author.Tests.{leb-true}
use Rattle.reading.specs.declared.check.Failure.{Failure}
use Rattle.reading.specs.declared.check.Failure.TheVariants.{Failed, Short}
use Rattle.reading.specs.declared.refusal.Refusal.{Refusal}
use Rattle.reading.specs.declared.part.Span.{Span}
use Rattle.reading.specs.Choice.{pick}
use Rattle.reading.specs.Answers.{outcome_of_failure, refusal_of}
use Rattle.reading.specs.Refusal.{number}
use Rattle.reading.specs.Check.{Test, Need, passed, failed, short, Answer, ok, refused, map_answer, answer_of_outcome, run, answer, holds}
use Rattle.reading.specs.Part.{Part, part_of, part_within}
use Rattle.reading.proofs.Cut.{answer_plain, run_ok}
use Rattle.reading.proofs.Steps.{after, answer_bind, answer_done}
use Rattle.reading.proofs.Passed.{bind_ok, done_ok, must_ok, stops_failed, stops_short, bind_answered}
use Rattle.reading.proofs.Results.{answer_wrong}
use Rattle.reading.proofs.Parts.{part_there}
use Rattle.sff_fields.specs.declared.header.Header.{Header}
use Rattle.sff_fields.specs.declared.read.ReadHeader.{ReadHeader}
use Rattle.sff.specs.declared.walk.Boundary.{Boundary}
use Rattle.sff_fields.specs.declared.parts.Read.{Read}
use Rattle.sff_fields.specs.declared.parts.ReadPart.{ReadPart}
use Rattle.sff_fields.specs.declared.parts.ReadPart.TheVariants.{Name, Flows, Steps, Letters, Qualities, Insert}
use Rattle.sff_fields.specs.Padding.{padded}
use Rattle.sff.specs.Read.{present_read, framing}
use Rattle.sff_fields.specs.Read.{read_end, steps_start, letters_start}
use Rattle.sff.specs.Walk.{skip_index, before_read}
use Rattle.sff_fields.specs.Clips.{clips_check, first_base, right_clip, last_base, insert_from, insert}
use Rattle.contents.specs.Steps.{steps_check}
use Rattle.sff_fields.specs.Contents.{contents_check}
use Rattle.sff.specs.Lookup.{read_contents, read_from, read_in, read_reading}
use Rattle.sff_fields.specs.Parts.{read_of, span_of}
use Rattle.sff_fields.proofs.padding.Laws.{padded_bounds}
use Rattle.sff.proofs.read.Laws.{fields, present_there}

-- a read's insert
pick_below : (b : Bool) {m n x : ℕ} → m ≤ x → n ≤ x → pick b m n ≤ x
pick_below true p q = p
pick_below false p q = q

clip_below : (d : ReadHeader) (c : ℕ) → right_clip d c ≤ max d.bases c
clip_below d c = pick_below (eqb c 0) (omega arith) (omega arith)

pub last_below : (d : ReadHeader) (v : ℕ) → v ≡ last_base d → v ≤ max d.bases d.quality_right
last_below d v q =
    let h = clip_below d d.quality_right in
    omega arith

pub insert_of : (f : ℕ) (d : ReadHeader) (a b : ℕ) → a ≡ first_base d → b ≡ last_base d → insert_from (letters_start f d) a b ≡ insert f d
insert_of f d a b q r = rw (q, r)

-- the contents of a read, from what the checks of its steps alone answer
module _ (f : ℕ) (d : ReadHeader) (l t s : List ℕ) (w : answer (steps_check f t 0 (length t)) s ≡ answer (steps_check f l (steps_start f d) d.bases) s) where
  contents_same : answer (read_contents f d l) s ≡ map_answer (λ _. read_of f d) (answer (contents_check d f t) s)
  unfolding read_contents contents_check
  contents_same = simp (answer_bind, answer_done, ← w) (go (answer (clips_check d) s))
    where
      inner : (y : Answer (Unit {0})) → after y (λ _. ok (read_of f d)) ≡ map_answer (λ _. read_of f d) y
      inner (ok u) = refl
      inner (refused n e) = refl

      go : (x : Answer (Unit {0})) → after x (λ _. after (answer (steps_check f t 0 (length t)) s) (λ _. ok (read_of f d))) ≡ map_answer (λ _. read_of f d) (after x (λ _. answer (steps_check f t 0 (length t)) s))
      go (ok u) = inner (answer (steps_check f t 0 (length t)) s)
      go (refused n e) = refl

  module _ (a : Bool) (q : pick a (ok tt) (refused 11 0) ≡ answer (contents_check d f t) s) where
    pub contents_bad : a ≡ false → refused 11 0 ≡ answer (read_contents f d l) s
    contents_bad h = rw (contents_same, ← q, h)

    pub contents_good : a ≡ true → ok (read_of f d) ≡ answer (read_contents f d l) s
    contents_good h = rw (contents_same, ← q, h)

-- contents that were answered: the right quality clip is not past the bases, and the answer is what is told of the read
contents_passed : (f : ℕ) (d : ReadHeader) (l s : List ℕ) (r : Read) → answer (read_contents f d l) s ≡ ok r → (d.quality_right ≤ d.bases) × (read_of f d ≡ r)
unfolding read_contents clips_check holds
contents_passed f d l s r w =
    let a = bind_ok _ _ s r w in
    let b = bind_ok _ _ s r a.2 in
    let u = bind_ok _ _ s a.0 a.1 in
    let v = bind_ok _ _ s a.0 u.2 in
    (leb-true _ _ (must_ok _ _ 11 s v.0 v.1), done_ok _ r s b.2)

-- an insert that ends no later than base b lies within the b letters
insert_within : (p m n b : ℕ) → 1 ≤ m → n ≤ b → (insert_from p m n).start + (insert_from p m n).size ≤ p + b
insert_within p m n b h k = go (leb m n) refl
  where
    go : (t : Bool) → leb m n ≡ t → (insert_from p m n).start + (insert_from p m n).size ≤ p + b
    go true q =
        let l = leb-true m n q in
        rw q (omega arith)
    go false q = rw q (omega arith)

-- the parts of a read lie before its end
module _ (f : ℕ) (d : ReadHeader) (n : ℕ) (a : d.header_length ≡ padded (16 + d.name_length)) (e : read_end f d ≤ n) (c : d.quality_right ≤ d.bases) where
  span_fits : (which : ReadPart) → (span_of which (read_of f d)).start + (span_of which (read_of f d)).size ≤ n
  unfolding read_of
  span_fits Name = let h = padded_bounds (16 + d.name_length) in omega arith
  span_fits Flows = let h = padded_bounds (2 * f + 3 * d.bases) in omega arith
  span_fits Steps = let h = padded_bounds (2 * f + 3 * d.bases) in omega arith
  span_fits Letters = let h = padded_bounds (2 * f + 3 * d.bases) in omega arith
  span_fits Qualities = let h = padded_bounds (2 * f + 3 * d.bases) in omega arith
  span_fits Insert =
      let h = padded_bounds (2 * f + 3 * d.bases) in
      let l = last_below d (last_base d) refl in
      let i = insert_within (letters_start f d) (first_base d) (last_base d) d.bases (omega arith) (omega arith) in
      omega arith

-- so the parts of a read that is answered lie within the file
abbrev pub Within : List ℕ → Read → Type 0
Within s r = (which : ReadPart) → (span_of which r).start + (span_of which r).size ≤ length s

pub read_fits : (s : List ℕ) (f p : ℕ) (r : Read) → answer (read_from f p) s ≡ ok r → Within s r
unfolding read_from
read_fits s f p r w which =
    let a = bind_ok _ _ s r w in
    let d = a.0.fields in
    let g = present_there f p s a.0 a.1 in
    let c = contents_passed f d a.0.up_to s r a.2 in
    subst (λ (x : Read). (span_of which x).start + (span_of which x).size ≤ length s) c.1 (span_fits f d (length s) g.named g.within c.0 which)

pub number_fits : (s : List ℕ) (k : ℕ) (r : Read) → answer (read_reading k) s ≡ ok r → Within s r
unfolding read_reading read_in
number_fits s k r w =
    let a = bind_ok _ _ s r w in
    let b = bind_ok _ _ s r a.2 in
    let c = bind_ok _ _ s r b.2 in
    read_fits s a.0.flows c.0.position r c.2

-- the read at a place, from where it ends
module _ (f p : ℕ) (s : List ℕ) where
  pub from_failed : (t : Test) → run (framing f p) s ≡ failed t 0 → refused t.number 0 ≡ answer (read_from f p) s
  unfolding framing read_from
  from_failed t h = sym (answer_plain _ s ∙ ap answer_of_outcome (stops_failed (present_read f p) (λ r. read_end f r.fields) (λ r. read_contents f r.fields r.up_to) s t 0 h))

  pub from_short : (m : Need) → run (framing f p) s ≡ short m 0 → refused 1 0 ≡ answer (read_from f p) s
  unfolding framing read_from
  from_short m h = sym (answer_plain _ s ∙ ap answer_of_outcome (stops_short (present_read f p) (λ r. read_end f r.fields) (λ r. read_contents f r.fields r.up_to) s m 0 h))

  pub from_wrong : (w : Failure Refusal) → outcome_of_failure w 0 ≡ run (framing f p) s → refused (number (refusal_of w)) 0 ≡ answer (read_from f p) s
  from_wrong (Failed t) h = from_failed _ (sym h)
  from_wrong (Short a m) h = from_short _ (sym h)

  module _ (e : ℕ) (h : run (framing f p) s ≡ passed e) where
    pub from_there : (p + 16 ≤ length s) × (e ≤ length s) × (read_end f (fields s p) ≡ e)
    unfolding framing
    from_there =
        let a = bind_ok _ _ s e (run_ok _ s e h) in
        let k = present_there f p s a.0 a.1 in
        let g : read_end f a.0.fields ≡ e = done_ok _ e s a.2 in
        (k.fixed, subst (λ (m : ℕ). m ≤ length s) g k.within, ap (read_end f) (sym k.header) ∙ g)

    module _ (d : ReadHeader) (q : d ≡ fields s p) where
      pub from_steps : steps_start f d + d.bases ≤ length (take e s)
      from_steps =
          let k = from_there in
          let n : read_end f d ≡ e = ap (read_end f) q ∙ k.2 in
          let b = padded_bounds (2 * f + 3 * d.bases) in
          simp length-take (omega arith)

      pub from_contents : answer (read_contents f d (take e s)) s ≡ answer (read_from f p) s
      unfolding framing read_from
      from_contents =
          let a = bind_ok _ _ s e (run_ok _ s e h) in
          let r = a.0 in
          let x : r.fields ≡ d = (present_there f p s r a.1).header ∙ sym q in
          let y : r.up_to ≡ take e s = (present_there f p s r a.1).up_to ∙ ap (λ (m : ℕ). take m s) (done_ok _ e s a.2) in
          let z : answer (read_contents f d (take e s)) s ≡ answer (read_contents f r.fields r.up_to) s = rw (x, y) in
          z ∙ bind_answered (present_read f p) (λ r. read_contents f r.fields r.up_to) s r a.1

-- read k, from what stands before it
module _ (d : Header) (k : ℕ) (s : List ℕ) (b : Boundary) (h : answer (before_read d k) s ≡ ok b) where
  pub in_cut : (f : Failure Refusal) → outcome_of_failure f 0 ≡ run (skip_index d b) s → refused (number (refusal_of f)) 0 ≡ answer (read_in d k) s
  unfolding read_in
  in_cut f q = simp (answer_bind, h, ← answer_wrong _ s f 0 q)

  pub in_found : (c : Boundary) → run (skip_index d b) s ≡ passed c → answer (read_from d.flows c.position) s ≡ answer (read_in d k) s
  unfolding read_in
  in_found c q = simp (answer_bind, h, run_ok _ s c q)

-- a part from the place that the code computed
pub part_placed : (p : Part) (a n : ℕ) (q : Span) → (a ≡ q.start) × (n ≡ q.size) → q.start + q.size ≤ length p.bytes → part_within p a n ≡ part_of p q.start q.size
part_placed p a n q e h = rw (e.0, e.1) (part_there p q.start q.size h)
