-- A read, from the answers of its checks and the writes of its pieces.
use Prim.Native.Nat.{ℕ, ◌+◌, ◌*◌, ◌≤◌, ◌<◌}
use mathlib.Core.Path.{◌≡◌, refl, sym, ◌∙◌, ap}
use mathlib.Core.List.{List, [], ◌++◌, append_assoc}
use mathlib.Core.Bool.{Bool, true, false}
use native.Mathlib.Omega.{arith}
use lib.Dec.{leb}
use lib.ListN.{length, replicate, length-append, length-replicate}
use borrow.Author.Tests.{le-leb, lt-leb, eq-eqb, ne_eqb, leb-true, eqb-true}
use Rattle.reading.specs.Choice.{pick}
use Rattle.reading.specs.Check.{ok, refused, answer, holds}
use Rattle.reading.proofs.Steps.{answer_bind, answer_must}
use Rattle.reading.proofs.Passed.{bind_ok, must_ok}
use Rattle.sff_fields.specs.declared.read.ReadHeader.{ReadHeader}
use Rattle.sff_fields.specs.Padding.{padding, padded}
use Rattle.writing.specs.Put.{digits, words, put}
use Rattle.writing.proofs.Over.{follow}
use Rattle.writing.proofs.Pieces.{three, four}
use Rattle.writing.proofs.Words.{length_words}
use Rattle.sff_write.specs.declared.read.Clips.{Clips}
use Rattle.sff_write.specs.Read.{GivenRead, clips_fit, name_fits, lengths_check, header_with, length_bytes, clip_bytes, field_bytes, read_bytes}
use Rattle.sff_write.specs.Private.{Fitting}

-- what the lengths' checks leave
pub fitting : (f : ℕ) (r : GivenRead) (l : List ℕ) (u : Unit {0}) → answer (lengths_check f r) l ≡ ok u → Fitting f r
unfolding lengths_check name_fits clips_fit holds
fitting f r l u h =
    let a = bind_ok _ _ l u h in
    let b = bind_ok _ _ l u a.2 in
    let c = bind_ok _ _ l u b.2 in
    let d = bind_ok _ _ l u c.2 in
    let e = bind_ok _ _ l u d.2 in
    let g = bind_ok _ _ l u e.2 in
    let i = bind_ok _ _ l u g.2 in
    let j = bind_ok _ _ l u i.2 in
    let k = bind_ok _ _ l u j.2 in
    record {
      name_fits = leb-true _ _ (must_ok _ _ _ l a.0 a.1);
      flows_fit = leb-true _ _ (must_ok _ _ _ l b.0 b.1);
      flows_agree = eqb-true _ _ (must_ok _ _ _ l c.0 c.1);
      steps_agree = eqb-true _ _ (must_ok _ _ _ l d.0 d.1);
      qualities_agree = eqb-true _ _ (must_ok _ _ _ l e.0 e.1);
      bases_fit = leb-true _ _ (must_ok _ _ _ l g.0 g.1);
      clips_fit =
          (leb-true _ _ (must_ok _ _ _ l i.0 i.1), leb-true _ _ (must_ok _ _ _ l j.0 j.1), leb-true _ _ (must_ok _ _ _ l k.0 k.1), leb-true _ _ (must_ok _ _ _ l u k.2));
    }

pub lengths_ok : (f : ℕ) (r : GivenRead) (b : Bool) → pick b (ok tt) (refused 9 0) ≡ answer (lengths_check f r) [] → b ≡ true → answer (lengths_check f r) [] ≡ ok tt
lengths_ok f r b q h = sym q ∙ rw h

-- the header length of a read
module _ (n : ℕ) (l : List ℕ) where
  pub name_long : 65535 < n → refused 9 0 ≡ answer (name_fits n) l
  unfolding name_fits padded holds
  name_long h =
      let k : 65535 < padded (16 + n) = omega arith in
      simp (answer_must, lt-leb _ _ k)

  pub name_is : (z : ℕ) → z ≡ padding (16 + n) → pick (leb (16 + n + z) 65535) (ok tt) (refused 9 0) ≡ answer (name_fits n) l
  unfolding name_fits padded holds
  name_is z e = simp (answer_must, e)

-- the lengths, from what the name's length answers
module _ (f : ℕ) (r : GivenRead) (l : List ℕ) (a : Bool) (q : pick a (ok tt) (refused 9 0) ≡ answer (name_fits (length r.name)) l) where
  pub lengths_name : a ≡ false → refused 9 0 ≡ answer (lengths_check f r) l
  unfolding lengths_check
  lengths_name h = simp (answer_bind, ← q, h)

  module _ (h : a ≡ true) where
    pub lengths_few : 65535 < f → refused 9 0 ≡ answer (lengths_check f r) l
    unfolding lengths_check holds
    lengths_few k = simp (answer_bind, answer_must, ← q, h, lt-leb _ _ k)

    module _ (k : f ≤ 65535) where
      pub lengths_flows : (length r.flows ≡ f → ⊥) → refused 9 0 ≡ answer (lengths_check f r) l
      unfolding lengths_check holds
      lengths_flows n = simp (answer_bind, answer_must, ← q, h, le-leb _ _ k, ne_eqb _ _ n)

      module _ (e : length r.flows ≡ f) where
        pub lengths_steps : (length r.steps ≡ length r.letters → ⊥) → refused 9 0 ≡ answer (lengths_check f r) l
        unfolding lengths_check holds
        lengths_steps n = simp (answer_bind, answer_must, ← q, h, le-leb _ _ k, eq-eqb _ _ e, ne_eqb _ _ n)

        module _ (s : length r.steps ≡ length r.letters) where
          pub lengths_qualities : (length r.qualities ≡ length r.letters → ⊥) → refused 9 0 ≡ answer (lengths_check f r) l
          unfolding lengths_check holds
          lengths_qualities n = simp (answer_bind, answer_must, ← q, h, le-leb _ _ k, eq-eqb _ _ e, eq-eqb _ _ s, ne_eqb _ _ n)

          module _ (u : length r.qualities ≡ length r.letters) where
            pub lengths_bases : 0xffffffff < length r.letters → refused 9 0 ≡ answer (lengths_check f r) l
            unfolding lengths_check holds
            lengths_bases n = simp (answer_bind, answer_must, ← q, h, le-leb _ _ k, eq-eqb _ _ e, eq-eqb _ _ s, eq-eqb _ _ u, lt-leb _ _ n)

            pub lengths_clips : length r.letters ≤ 0xffffffff → (b : Bool) → pick b (ok tt) (refused 9 0) ≡ answer (clips_fit r.clips) l → pick b (ok tt) (refused 9 0) ≡ answer (lengths_check f r) l
            unfolding lengths_check holds
            lengths_clips n b v = simp (answer_bind, answer_must, ← q, h, le-leb _ _ k, eq-eqb _ _ e, eq-eqb _ _ s, eq-eqb _ _ u, le-leb _ _ n) v

-- a length and its padding
pub size_is : (n z : ℕ) → z ≡ padding n → n + z ≡ padded n
unfolding padded
size_is n z e = rw e

pub header_is : (p n b z : ℕ) (c : Clips) → z ≡ padding (16 + n) → ◌≡◌ {A = ReadHeader} (record { start = p; header_length = 16 + n + z; name_length = n; bases = b; quality_left = c.quality_left; quality_right = c.quality_right; adapter_left = c.adapter_left; adapter_right = c.adapter_right }) (header_with p n b c)
unfolding header_with
header_is p n b z c e = rw (size_is (16 + n) z e)

-- the pieces of a read's header
pub lengths_put : (l l1 l2 : List ℕ) {l3 : List ℕ} (p : ℕ) (d : ReadHeader) → p + 16 ≤ length l → l1 ≡ put l p (digits 2 d.header_length) → l2 ≡ put l1 (p + 2) (digits 2 d.name_length) → l3 ≡ put l2 (p + 4) (digits 4 d.bases) → l3 ≡ put l p (length_bytes d)
unfolding length_bytes digits
lengths_put l l1 l2 p d h e1 e2 e3 =
    let f2 = follow l l1 p (p + 2) (digits 2 d.header_length) (digits 2 d.name_length) e1 e2 refl (omega arith) in
    follow l l2 p (p + 4) _ (digits 4 d.bases) f2 e3 refl (omega arith)

pub clips_put : (l l1 l2 l3 : List ℕ) {l4 : List ℕ} (p : ℕ) (d : ReadHeader) → p + 8 ≤ length l → l1 ≡ put l p (digits 2 d.quality_left) → l2 ≡ put l1 (p + 2) (digits 2 d.quality_right) → l3 ≡ put l2 (p + 4) (digits 2 d.adapter_left) → l4 ≡ put l3 (p + 6) (digits 2 d.adapter_right) → l4 ≡ put l p (clip_bytes d)
unfolding clip_bytes digits
clips_put l l1 l2 l3 p d h e1 e2 e3 e4 =
    let f2 = follow l l1 p (p + 2) (digits 2 d.quality_left) (digits 2 d.quality_right) e1 e2 refl (omega arith) in
    let f3 = follow l l2 p (p + 4) _ (digits 2 d.adapter_left) f2 e3 refl (omega arith) in
    follow l l3 p (p + 6) _ (digits 2 d.adapter_right) f3 e4 refl (omega arith)

pub length_lengths : (d : ReadHeader) → length (length_bytes d) ≡ 8
unfolding length_bytes digits
length_lengths d = refl

pub length_clips : (d : ReadHeader) → length (clip_bytes d) ≡ 8
unfolding clip_bytes digits
length_clips d = refl

pub header_put : (l l1 l2 l3 : List ℕ) {l4 : List ℕ} (p : ℕ) (d : ReadHeader) (name : List ℕ) (z : ℕ) → p + 16 + length name + z ≤ length l
    → l1 ≡ put l p (length_bytes d) → l2 ≡ put l1 (p + 8) (clip_bytes d) → l3 ≡ put l2 (p + 16) name → l4 ≡ put l3 (p + 16 + length name) (replicate z 0) → l4 ≡ put l p (field_bytes d ++ (name ++ replicate z 0))
unfolding length_bytes clip_bytes digits
header_put l l1 l2 l3 p d name z h e1 e2 e3 e4 =
    let k : length {A = ℕ} (replicate z 0) ≡ z = length-replicate z 0 in
    let f2 = follow l l1 p (p + 8) (length_bytes d) (clip_bytes d) e1 e2 refl (omega arith) in
    three l l2 l3 p (field_bytes d) name (replicate z 0) f2 e3 e4 (omega arith)

pub bases_put : (l l1 l2 l3 : List ℕ) {l4 : List ℕ} (p : ℕ) (u v w : List ℕ) (z : ℕ) → l1 ≡ put l p u → l2 ≡ put l1 (p + length u) v → l3 ≡ put l2 (p + length u + length v) w → l4 ≡ put l3 (p + length u + length v + length w) (replicate z 0)
    → p + length u + length v + length w + z ≤ length l → l4 ≡ put l p (u ++ (v ++ (w ++ replicate z 0)))
bases_put l l1 l2 l3 p u v w z e1 e2 e3 e4 h =
    let k : length {A = ℕ} (replicate z 0) ≡ z = length-replicate z 0 in
    four l l1 l2 l3 p u v w (replicate z 0) e1 e2 e3 e4 (omega arith)

-- a read's length
pub length_read : (d : ReadHeader) (r : GivenRead) → length r.steps ≡ length r.letters → length r.qualities ≡ length r.letters → length (read_bytes d r) ≡ padded (16 + length r.name) + padded (2 * length r.flows + 3 * length r.letters)
unfolding read_bytes padded
length_read d r a b = simp (length-append, length_lengths d, length_clips d, length-replicate, length_words) (omega arith)

-- the whole read, in three writes
pub read_put : (l l1 l2 : List ℕ) {l3 : List ℕ} (p y z : ℕ) (d : ReadHeader) (r : GivenRead) → y ≡ padding (16 + length r.name) → z ≡ padding (2 * length r.flows + 3 * length r.letters)
    → l1 ≡ put l p (field_bytes d ++ (r.name ++ replicate y 0)) → l2 ≡ put l1 (p + (16 + length r.name) + y) (words r.flows (length r.flows) 0) → l3 ≡ put l2 (p + (16 + length r.name) + y + 2 * length r.flows) (r.steps ++ (r.letters ++ (r.qualities ++ replicate z 0)))
    → p + length (read_bytes d r) ≤ length l → l3 ≡ put l p (read_bytes d r)
unfolding read_bytes
read_put l l1 l2 p y z d r ey ez e1 e2 e3 h =
    let u : List ℕ = field_bytes d ++ (r.name ++ replicate y 0) in
    let v : List ℕ = words r.flows (length r.flows) 0 in
    let w : List ℕ = r.steps ++ (r.letters ++ (r.qualities ++ replicate z 0)) in
    let q : u ++ (v ++ w) ≡ read_bytes d r = rw (ey, ez) (simp append_assoc) in
    let lu : p + (16 + length r.name) + y ≡ p + length u = simp (length-append, length_lengths d, length_clips d, length-replicate) (omega arith) in
    let lv : p + length u + 2 * length r.flows ≡ p + length u + length v = rw (length_words r.flows (length r.flows) 0) in
    let k : length (u ++ (v ++ w)) ≡ length u + (length v + length w) = simp length-append in
    three l l1 l2 p u v w e1 (rw lu at e2) (rw (lu, lv) at e3) (omega (arith, ap length q)) ∙ ap (put l p) q
