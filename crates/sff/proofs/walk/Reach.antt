-- How many bytes a walk that passes needs: just up to the boundary behind it.
use Prim.Native.Nat.{ℕ, zero, suc, ◌+◌, ◌*◌, ◌≤◌, max}
use mathlib.Core.Path.{◌≡◌, ◌∙◌, ap}
use mathlib.Core.List.{List}
use mathlib.Core.Bool.{Bool, true, false}
use native.Mathlib.Omega.{arith}
use lib.Dec.{eqb}
use Rattle.reading.specs.Choice.{pick}
use Rattle.reading.specs.Check.{ok, answer, done, need, ◌>>◌}
use Rattle.reading.proofs.Needed.{reach}
use Rattle.reading.proofs.Steps.{reach_must, reach_need, reach_done, reach_at}
use Rattle.reading.proofs.Passed.{bind_ok, done_ok, at_ok}
use Rattle.sff_fields.specs.declared.header.Header.{Header}
use Rattle.sff_fields.specs.declared.read.ReadHeader.{ReadHeader}
use Rattle.sff.specs.declared.walk.Boundary.{Boundary}
use Rattle.sff_fields.specs.Padding.{padded}
use Rattle.sff.specs.Read.{read_header_of, PresentRead, present_data, present_read, framing}
use Rattle.sff_fields.specs.Read.{data_start, read_end, read_length_check}
use Rattle.sff.specs.declared.walk.Placed.{Placed}
use Rattle.sff.specs.Walk.{behind_index, skip_index, next_read, Passage, walk}
use Rattle.sff_fields.proofs.padding.Laws.{padded_bounds}
use Rattle.sff.proofs.read.Laws.{present_there, field_start}

last : (r p h e : ℕ) → r ≡ max (p + 16) (max (p + h) e) → 16 ≤ h → p + h ≤ e → (r ≡ e) × (p ≤ e)
last r p h e q a b = (omega arith, omega arith)

-- a read's header has at least 16 bytes, so its end is the last thing needed
pub present_reach : (f p : ℕ) (s : List ℕ) (r : PresentRead) → answer (present_read f p) s ≡ ok r → (reach (present_read f p) s ≡ read_end f r.fields) × (p ≤ read_end f r.fields)
unfolding present_read present_data read_length_check
present_reach f p s r w =
    let a = bind_ok _ _ s r w in
    let b = bind_ok _ _ s r a.2 in
    let c = bind_ok _ _ s r b.2 in
    let d = bind_ok _ _ s r c.2 in
    let q = read_header_of a.0 p in
    let e = ap (λ (x : PresentRead). x.fields) (done_ok _ r s d.2) in
    let m : reach (present_read f p) s ≡ max (p + 16) (max (data_start q) (read_end f q)) = simp (a.3, b.3, c.3, d.3, reach_must, reach_need, reach_done) (omega arith) in
    let u : reach (present_read f p) s ≡ max (p + 16) (max (data_start r.fields) (read_end f r.fields)) = m ∙ ap (λ (x : ReadHeader). max (p + 16) (max (data_start x) (read_end f x))) e in
    let g = present_there f p s r w in
    let z : r.fields.start ≡ p = ap (λ (x : ReadHeader). x.start) g.header ∙ field_start p s in
    let n = g.named in
    let h = padded_bounds (16 + r.fields.name_length) in
    let k = padded_bounds (2 * f + 3 * r.fields.bases) in
    let v : read_end f r.fields ≡ p + r.fields.header_length + padded (2 * f + 3 * r.fields.bases) = rw z in
    last (reach (present_read f p) s) p r.fields.header_length (read_end f r.fields) (u ∙ rw z) (omega (arith, n, h)) (omega (arith, v))

pub framing_reach : (f p : ℕ) (s : List ℕ) (e : ℕ) → answer (framing f p) s ≡ ok e → (reach (framing f p) s ≡ e) × (p ≤ e)
unfolding framing
framing_reach f p s e w =
    let a = bind_ok _ _ s e w in
    let g = present_reach f p s a.0 a.1 in
    let k : read_end f a.0.fields ≡ e = done_ok _ e s a.2 in
    (simp (a.3, reach_done) (omega arith), omega arith)

pub skip_reach : (d : Header) (b c : Boundary) (s : List ℕ) → answer (skip_index d b) s ≡ ok c → max b.position (reach (skip_index d b) s) ≡ c.position
unfolding skip_index
skip_reach d b c s w = go (eqb b.position d.index_offset) w
  where
    m : ℕ
    m = b.position + padded d.index_length

    go : (t : Bool) → answer (pick t (need b.position m >> done (behind_index d b)) (done b)) s ≡ ok c → max b.position (reach (pick t (need b.position m >> done (behind_index d b)) (done b)) s) ≡ c.position
    go true v =
        let a = bind_ok _ _ s c v in
        let k : m ≡ c.position = ap (λ (x : Boundary). x.position) (done_ok _ c s a.2) in
        simp (a.3, reach_need, reach_done) (omega arith)
    go false v =
        let k : b.position ≡ c.position = ap (λ (x : Boundary). x.position) (done_ok _ c s v) in
        simp reach_done (omega arith)

pub next_reach : (d : Header) (i : ℕ) (b : Boundary) (s : List ℕ) (r : Placed) → answer (next_read d i b) s ≡ ok r → max b.position (reach (next_read d i b) s) ≡ r.behind.position
unfolding next_read
next_reach d i b s r w =
    let a = bind_ok _ _ s r w in
    let e = bind_ok _ _ s r a.2 in
    let g = skip_reach d b a.0 s a.1 in
    let f = framing_reach d.flows a.0.position s e.0 (at_ok (i + 1) _ s e.0 e.1) in
    let k : e.0 ≡ r.behind.position = ap (λ (x : Placed). x.behind.position) (done_ok _ r s e.2) in
    simp (a.3, e.3, reach_at, f.0, reach_done) (omega arith)

pub walk_reach : (d : Header) (s : List ℕ) (n i : ℕ) (b : Boundary) (w : Passage) → answer (walk d n i b) s ≡ ok w → max b.position (reach (walk d n i b) s) ≡ w.behind.position
unfolding walk
walk_reach d s zero i b w h =
    let k : b.position ≡ w.behind.position = ap (λ (x : Passage). x.behind.position) (done_ok _ w s h) in
    simp reach_done (omega arith)
walk_reach d s (suc n) i b w h =
    let a = bind_ok _ _ s w h in
    let e = bind_ok _ _ s w a.2 in
    let g = next_reach d i b s a.0 a.1 in
    let f = walk_reach d s n (i + 1) a.0.behind e.0 e.1 in
    let k : e.0.behind.position ≡ w.behind.position = ap (λ (x : Passage). x.behind.position) (done_ok _ w s e.2) in
    simp (a.3, e.3, reach_done) (omega arith)
