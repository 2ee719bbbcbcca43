-- Where a read ends, from what the code has read and tested.
use Prim.Native.Nat.{ℕ, ◌+◌, ◌-◌, ◌≤◌, ◌<◌}
use mathlib.Core.Path.{◌≡◌, refl, sym, ◌∙◌, ap, subst}
use mathlib.Core.List.{List}
use native.Mathlib.Omega.{arith}
use lib.ListN.{length, take, drop}
use Rattle.reading.specs.Number.{be}
use Rattle.reading.specs.Check.{Test, passed, failed, short, ok, run, answer}
use Rattle.reading.proofs.Width.{be_in_part, be_taken}
use Rattle.reading.proofs.Signed.{equal_to_is}
use Rattle.reading.proofs.Passed.{bind_ok, done_ok, must_ok, need_ok}
use Rattle.reading.proofs.Steps.{run_bind, run_done, run_need_present, run_need_absent}
use Rattle.sff_fields.specs.declared.read.ReadHeader.{ReadHeader}
use Rattle.sff_fields.specs.Padding.{padded}
use Rattle.sff_fields.specs.Read.{data_length, read_length_check, read_end}
use Rattle.sff.specs.Read.{read_header_at, read_header_of, PresentRead, present_data, present_read, framing}

-- the header of the read at place p
abbrev pub fields : List ℕ → ℕ → ReadHeader
fields s p = read_header_of (take (p + 16) s) p

-- its bytes alone, and a field of it read from them
abbrev fixed : List ℕ → ℕ → List ℕ
fixed s p = take (p + 16 - p) (drop p s)

field : (w q p : ℕ) (s : List ℕ) → q + w ≤ 16 → be w (fixed s p) q ≡ be w (take (p + 16) s) (p + q)
field w q p s h = be_in_part w p (p + 16 - p) q s (omega arith) ∙ sym (be_taken w (p + 16) (p + q) s (omega arith))

-- its fields, read from them
pub fields_fixed : (p : ℕ) (s : List ℕ) → read_header_at p (fixed s p) 0 ≡ fields s p
unfolding read_header_at
fields_fixed p s =
    let z : p + 0 ≡ p = omega arith in
    let a = field 2 0 p s (omega arith) ∙ ap (be 2 (take (p + 16) s)) z in
    let b = field 2 2 p s (omega arith) in
    let c = field 4 4 p s (omega arith) in
    let e = field 2 8 p s (omega arith) in
    let f = field 2 10 p s (omega arith) in
    let g = field 2 12 p s (omega arith) in
    let h = field 2 14 p s (omega arith) in
    λ i. record { start = p; header_length = a i; name_length = b i; bases = c i; quality_left = e i; quality_right = f i; adapter_left = g i; adapter_right = h i }

pub field_start : (p : ℕ) (s : List ℕ) → (fields s p).start ≡ p
unfolding read_header_at
field_start p s = refl

module _ (f p : ℕ) (s : List ℕ) where
  pub frame_short : length s < p + 16 → short (record { start = p; end = p + 16 }) 0 ≡ run (framing f p) s
  unfolding framing present_read
  frame_short h = simp (run_bind, run_need_absent p (p + 16) s h)

  module _ (h : p + 16 ≤ length s) (a n b : ℕ) (ea : a ≡ be 2 (fixed s p) 0) (en : n ≡ be 2 (fixed s p) 2) (eb : b ≡ be 4 (fixed s p) 4) where
    known : ((fields s p).header_length ≡ a) × ((fields s p).name_length ≡ n) × ((fields s p).bases ≡ b)
    unfolding read_header_at
    known =
        let z : p + 0 ≡ p = omega arith in
        (sym (ea ∙ field 2 0 p s (omega arith) ∙ ap (be 2 (take (p + 16) s)) z), sym (en ∙ field 2 2 p s (omega arith)), sym (eb ∙ field 4 4 p s (omega arith)))

    pub frame_bad : (t : Test) → failed t 0 ≡ run (read_length_check p a n) s → failed t 0 ≡ run (framing f p) s
    unfolding framing present_read present_data
    frame_bad t q = simp (run_bind, run_need_present p (p + 16) s h, field_start p s, known.0, known.1, ← q)

    module _ (q : passed tt ≡ run (read_length_check p a n) s) where
      pub frame_header : length s < p + a → short (record { start = p; end = p + a }) 0 ≡ run (framing f p) s
      unfolding framing present_read present_data
      frame_header l = simp (run_bind, run_need_present p (p + 16) s h, field_start p s, known.0, known.1, ← q, run_need_absent p (p + a) s l)

      module _ (l : p + a ≤ length s) (m : ℕ) (k : m ≡ p + a + data_length f b) where
        pub frame_data : length s < m → short (record { start = p + a; end = m }) 0 ≡ run (framing f p) s
        unfolding framing present_read present_data
        frame_data g = simp (run_bind, run_need_present p (p + 16) s h, field_start p s, known.0, known.1, known.2, ← q, run_need_present p (p + a) s l, ← k, run_need_absent (p + a) m s g)

        pub frame_end : m ≤ length s → passed m ≡ run (framing f p) s
        unfolding framing present_read present_data
        frame_end g = simp (run_bind, run_need_present p (p + 16) s h, field_start p s, known.0, known.1, known.2, ← q, run_need_present p (p + a) s l, ← k, run_need_present (p + a) m s g, run_done)

-- what the checks have shown of a read that is there
pub record There (f p : ℕ) (s : List ℕ) (r : PresentRead) : Type 0 where
  pub fixed : p + 16 ≤ length s
  pub header : r.fields ≡ fields s p
  pub named : r.fields.header_length ≡ padded (16 + r.fields.name_length)
  pub within : read_end f r.fields ≤ length s
  pub up_to : r.up_to ≡ take (read_end f r.fields) s

pub present_there : (f p : ℕ) (s : List ℕ) (r : PresentRead) → answer (present_read f p) s ≡ ok r → There f p s r
unfolding present_read present_data read_length_check
present_there f p s r w =
    let a = bind_ok _ _ s r w in
    let b = bind_ok _ _ s r a.2 in
    let c = bind_ok _ _ s r b.2 in
    let d = bind_ok _ _ s r c.2 in
    let m = need_ok _ _ s a.0 a.1 in
    let n = need_ok _ _ s d.0 d.1 in
    subst (There f p s) (done_ok _ _ s d.2) (record { fixed = m.0; header = ap (λ (l : List ℕ). read_header_of l p) m.1; named = equal_to_is _ _ (must_ok _ _ _ s b.0 b.1); within = n.0; up_to = n.1 })

-- a read ends within the file
pub framing_within : (f p : ℕ) (s : List ℕ) (e : ℕ) → answer (framing f p) s ≡ ok e → e ≤ length s
unfolding framing
framing_within f p s e w =
    let a = bind_ok _ _ s e w in
    subst (λ (m : ℕ). m ≤ length s) (done_ok _ _ s a.2) (present_there f p s a.0 a.1).within
