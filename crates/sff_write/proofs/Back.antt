-- Reading back what is written: the header, the fields of a read, and its parts.
use Prim.Native.Nat.{ℕ, ◌+◌, ◌*◌, ◌^◌, ◌≤◌, ◌<◌}
use mathlib.Core.Path.{◌≡◌, refl, sym, ◌∙◌, ap}
use mathlib.Core.List.{List, [], ◌++◌, append_assoc}
use native.Mathlib.Omega.{arith}
use lib.ListN.{length, take, drop, length-append, length-drop, replicate, length-replicate}
use lib.Seq.{take_at, drop_at, drop-drop, take-append-le, drop-append-le}
use Rattle.reading.specs.Number.{be}
use Rattle.reading.specs.Check.{ok, answer}
use Rattle.reading.proofs.Width.{be_taken}
use Rattle.sff_fields.specs.declared.header.Header.{Header}
use Rattle.sff_fields.specs.declared.read.ReadHeader.{ReadHeader}
use Rattle.sff_fields.specs.Padding.{padding, padded}
use Rattle.sff.specs.Header.{header_of, header}
use Rattle.sff.specs.Read.{read_header_at, read_header_of, present_read}
use Rattle.sff_fields.specs.Read.{read_end}
use Rattle.sff_fields.proofs.padding.Laws.{padded_bounds}
use Rattle.sff.proofs.NoIndex.{header_passes, present_passes}
use Rattle.writing.specs.Put.{digits, words}
use Rattle.writing.proofs.Digits.{be_field}
use Rattle.writing.proofs.Words.{length_words}
use Rattle.sff_write.specs.Header.{front_bytes, length_bytes, header_size, header_bytes}
use Rattle.sff_write.specs.Read as Read
use Rattle.sff_write.specs.Read.{GivenRead, header_with, header_for, clip_bytes, field_bytes, read_bytes}
use Rattle.sff_write.specs.Private.{Fitting}
use Rattle.sff_write.proofs.header.Laws.{length_header}
use Rattle.sff_write.proofs.read.Laws.{length_lengths, length_clips, length_read}

-- the n bytes from place p on are those between what stands in front and what follows
part_at : (s a b c : List ℕ) (p n : ℕ) → s ≡ a ++ (b ++ c) → length a ≡ p → length b ≡ n → take n (drop p s) ≡ b
part_at s a b c p n q e h = ap (λ (x : List ℕ). take n (drop p x)) q ∙ ap (take n) (drop_at a (b ++ c) p e) ∙ take_at b c n h

-- a header is as long as it says
pub header_length_lem : (n : ℕ) (letters key : List ℕ) → length (header_bytes n letters key) ≡ header_size letters key
header_length_lem = length_header

-- the header of a file that begins with it
module _ (n : ℕ) (letters key : List ℕ) (few : n < 4294967296) (fits : header_size letters key ≤ 65535) where
  fields : List ℕ
  fields = front_bytes n ++ length_bytes (header_size letters key) (length key) (length letters)

  abbrev pub header_back : Header
  header_back = record { index_offset = 0; index_length = 0; reads = n; header_length = header_size letters key; key_length = length key; flows = length letters }

  field_mark : be 4 fields 0 ≡ 0x2e736666
  unfolding be fields front_bytes length_bytes digits
  field_mark = refl

  field_version : be 4 fields 4 ≡ 1
  unfolding be fields front_bytes length_bytes digits
  field_version = refl

  field_offset : be 8 fields 8 ≡ 0
  unfolding be fields front_bytes length_bytes digits
  field_offset = refl

  field_length : be 4 fields 16 ≡ 0
  unfolding be fields front_bytes length_bytes digits
  field_length = refl

  field_code : be 1 fields 30 ≡ 1
  unfolding be fields front_bytes length_bytes digits
  field_code = refl

  fields_back : header_of fields ≡ header_back
  unfolding header_of fields front_bytes length_bytes digits
  fields_back =
      let h = padded_bounds (31 + length letters + length key) in
      let size = header_size letters key in
      let lengths = length_bytes size (length key) (length letters) in
      let a = be_field 4 n 20 [] (digits 4 0x2e736666 ++ (digits 4 1 ++ (digits 8 0 ++ digits 4 0))) lengths fields refl refl few in
      let b = be_field 2 size 24 [] (front_bytes n) (digits 2 (length key) ++ (digits 2 (length letters) ++ digits 1 1)) fields refl refl (omega arith) in
      let c = be_field 2 (length key) 26 [] (front_bytes n ++ digits 2 size) (digits 2 (length letters) ++ digits 1 1) fields refl refl (omega arith) in
      let e = be_field 2 (length letters) 28 [] (front_bytes n ++ (digits 2 size ++ digits 2 (length key))) (digits 1 1) fields refl refl (omega arith) in
      λ i. record { index_offset = field_offset i; index_length = field_length i; reads = a i; header_length = b i; key_length = c i; flows = e i }

  module _ (t : List ℕ) where
    rest : List ℕ
    rest = letters ++ (key ++ (replicate (padding (31 + length letters + length key)) 0 ++ t))

    begins : header_bytes n letters key ++ t ≡ fields ++ rest
    unfolding header_bytes fields rest
    begins = simp append_assoc

    first31 : take 31 (header_bytes n letters key ++ t) ≡ fields
    unfolding fields front_bytes length_bytes digits
    first31 = ap (take 31) begins ∙ take_at fields rest 31 refl

    pub header_back_lem : answer header (header_bytes n letters key ++ t) ≡ ok header_back
    header_back_lem =
        let h = padded_bounds (31 + length letters + length key) in
        let l : length (header_bytes n letters key ++ t) ≡ header_size letters key + length t = length-append (header_bytes n letters key) t ∙ ap (λ (k : ℕ). k + length t) (length_header n letters key) in
        header_passes (header_bytes n letters key ++ t) header_back (omega arith) (ap header_of first31 ∙ fields_back) (ap (λ (x : List ℕ). be 4 x 0) first31 ∙ field_mark) (ap (λ (x : List ℕ). be 4 x 4) first31 ∙ field_version) (ap (λ (x : List ℕ). be 1 x 30) first31 ∙ field_code) refl refl refl (omega arith)

    pub flow_letters_back : take (length letters) (drop 31 (header_bytes n letters key ++ t)) ≡ letters
    unfolding fields front_bytes length_bytes digits rest
    flow_letters_back = part_at _ fields letters _ 31 _ begins refl refl

    pub key_back : take (length key) (drop (31 + length letters) (header_bytes n letters key ++ t)) ≡ key
    unfolding rest fields front_bytes length_bytes digits
    key_back =
        let q : fields ++ rest ≡ (fields ++ letters) ++ (key ++ (replicate (padding (31 + length letters + length key)) 0 ++ t)) = simp append_assoc in
        part_at _ (fields ++ letters) key _ (31 + length letters) _ (begins ∙ q) (length-append fields letters) refl

-- the header fields of a read whose numbers fit
module _ (u x : List ℕ) (d : ReadHeader) (start : d.start ≡ length u) (head : d.header_length ≤ 65535) (name : d.name_length ≤ 65535) (bases : d.bases ≤ 0xffffffff)
    (ql : d.quality_left ≤ 65535) (qr : d.quality_right ≤ 65535) (al : d.adapter_left ≤ 65535) (ar : d.adapter_right ≤ 65535) where
  behind : List ℕ
  behind = field_bytes d ++ x

  field_back : (w n k : ℕ) (v r : List ℕ) → behind ≡ v ++ (digits w n ++ r) → length v ≡ k → n < 256 ^ w → k + w ≤ 16 → be w (take (length u + 16) (u ++ behind)) (length u + k) ≡ n
  field_back w n k v r e f h q = be_taken w (length u + 16) (length u + k) (u ++ behind) (omega arith) ∙ be_field w n k u v r behind e f h

  pub read_fields_back : read_header_of (take (length u + 16) (u ++ (field_bytes d ++ x))) (length u) ≡ d
  unfolding read_header_at behind Read.length_bytes clip_bytes digits
  read_fields_back =
      let z : length u + 0 ≡ length u = omega arith in
      let n1 = digits 2 d.header_length in
      let n2 = n1 ++ digits 2 d.name_length in
      let n3 = n2 ++ digits 4 d.bases in
      let n4 = n3 ++ digits 2 d.quality_left in
      let n5 = n4 ++ digits 2 d.quality_right in
      let n6 = n5 ++ digits 2 d.adapter_left in
      let r6 = digits 2 d.adapter_right ++ x in
      let r5 = digits 2 d.adapter_left ++ r6 in
      let r4 = digits 2 d.quality_right ++ r5 in
      let r3 = digits 2 d.quality_left ++ r4 in
      let r2 = digits 4 d.bases ++ r3 in
      let r1 = digits 2 d.name_length ++ r2 in
      let a = ap (be 2 (take (length u + 16) (u ++ behind))) (sym z) ∙ field_back 2 d.header_length 0 [] r1 refl refl (omega arith) (omega arith) in
      let b = field_back 2 d.name_length 2 n1 r2 refl refl (omega arith) (omega arith) in
      let c = field_back 4 d.bases 4 n2 r3 refl refl (omega arith) (omega arith) in
      let e = field_back 2 d.quality_left 8 n3 r4 refl refl (omega arith) (omega arith) in
      let f = field_back 2 d.quality_right 10 n4 r5 refl refl (omega arith) (omega arith) in
      let g = field_back 2 d.adapter_left 12 n5 r6 refl refl (omega arith) (omega arith) in
      let h = field_back 2 d.adapter_right 14 n6 x refl refl (omega arith) (omega arith) in
      λ i. record { start = sym start i; header_length = a i; name_length = b i; bases = c i; quality_left = e i; quality_right = f i; adapter_left = g i; adapter_right = h i }

-- a read r that was written behind u, and what follows it
module _ (u t : List ℕ) (f : ℕ) (r : GivenRead) (fit : Fitting f r) where
  pub read_end_lem : read_end f (header_for (length u) r) ≡ length (u ++ read_bytes (header_for (length u) r) r)
  unfolding header_with
  read_end_lem =
      let k = length_read (header_for (length u) r) r fit.steps_agree fit.qualities_agree in
      let e : padded (2 * length r.flows + 3 * length r.letters) ≡ padded (2 * f + 3 * length r.letters) = ap (λ (m : ℕ). padded (2 * m + 3 * length r.letters)) fit.flows_agree in
      rw length-append (omega arith)

  zeros : List ℕ
  zeros = replicate (padding (16 + length r.name)) 0

  flows : List ℕ
  flows = words r.flows (length r.flows) 0

  last : List ℕ
  last = replicate (padding (2 * length r.flows + 3 * length r.letters)) 0

  begins_read : u ++ (read_bytes (header_for (length u) r) r ++ t) ≡ u ++ (field_bytes (header_for (length u) r) ++ (r.name ++ (zeros ++ (flows ++ (r.steps ++ (r.letters ++ (r.qualities ++ (last ++ t))))))))
  unfolding read_bytes zeros flows last
  begins_read = simp append_assoc

  pub fields_read : read_header_of (take (length u + 16) (u ++ (read_bytes (header_for (length u) r) r ++ t))) (length u) ≡ header_for (length u) r
  unfolding header_with
  fields_read =
      let h = padded_bounds (16 + length r.name) in
      let n = fit.name_fits in
      ap (λ (x : List ℕ). read_header_of (take (length u + 16) x) (length u)) begins_read
      ∙ read_fields_back u (r.name ++ (zeros ++ (flows ++ (r.steps ++ (r.letters ++ (r.qualities ++ (last ++ t))))))) (header_for (length u) r) refl fit.name_fits (omega arith) fit.bases_fit fit.clips_fit.0 fit.clips_fit.1 fit.clips_fit.2 fit.clips_fit.3

  pub present_back : answer (present_read f (length u)) (u ++ (read_bytes (header_for (length u) r) r ++ t)) ≡ ok (record { fields = header_for (length u) r; up_to = u ++ read_bytes (header_for (length u) r) r })
  unfolding header_with
  present_back =
      let s = u ++ (read_bytes (header_for (length u) r) r ++ t) in
      let m = u ++ read_bytes (header_for (length u) r) r in
      let e : s ≡ m ++ t = sym (append_assoc u _ t) in
      let l : length s ≡ length m + length t = ap length e ∙ length-append m t in
      let k = read_end_lem in
      let b : length m ≡ length u + length (read_bytes (header_for (length u) r) r) = length-append u _ in
      let c = length_read (header_for (length u) r) r fit.steps_agree fit.qualities_agree in
      let h = padded_bounds (16 + length r.name) in
      present_passes f (length u) s (header_for (length u) r) (omega arith) fields_read refl refl (omega arith)
      ∙ ap (λ (x : List ℕ). ok (record { fields = header_for (length u) r; up_to = x })) (ap (take (read_end f (header_for (length u) r))) e ∙ take_at m t _ (sym k))

  -- its parts, in the order in which they stand
  abbrev file : List ℕ
  file = u ++ (read_bytes (header_for (length u) r) r ++ t)

  abbrev named : List ℕ
  named = u ++ (Read.length_bytes (header_for (length u) r) ++ clip_bytes (header_for (length u) r))

  pub name_back : take (length r.name) (drop (length u + 16) file) ≡ r.name
  name_back = part_at file named r.name (zeros ++ (flows ++ (r.steps ++ (r.letters ++ (r.qualities ++ (last ++ t)))))) (length u + 16) _ (begins_read ∙ simp append_assoc) (simp (length-append, length_lengths, length_clips) (omega arith)) refl

  pub flows_back : take (2 * f) (drop (length u + padded (16 + length r.name)) file) ≡ words r.flows (length r.flows) 0
  unfolding flows zeros padded
  flows_back =
      part_at file (named ++ (r.name ++ zeros)) flows (r.steps ++ (r.letters ++ (r.qualities ++ (last ++ t)))) (length u + padded (16 + length r.name)) (2 * f) (begins_read ∙ simp append_assoc)
      (simp (length-append, length_lengths, length_clips, length-replicate) (omega arith)) (length_words r.flows (length r.flows) 0 ∙ ap (λ (m : ℕ). 2 * m) fit.flows_agree)

  -- where the flow steps start
  abbrev steps_start_lem : ℕ
  steps_start_lem = length u + padded (16 + length r.name) + 2 * f

  before_steps : List ℕ
  before_steps = named ++ (r.name ++ (zeros ++ flows))

  length_before : length before_steps ≡ steps_start_lem
  unfolding before_steps flows zeros padded
  length_before =
      let e : 2 * length r.flows ≡ 2 * f = ap (λ (m : ℕ). 2 * m) fit.flows_agree in
      simp (length-append, length_lengths, length_clips, length-replicate, length_words) (omega arith)

  pub steps_back : take (length r.letters) (drop steps_start_lem file) ≡ r.steps
  unfolding before_steps
  steps_back = part_at file before_steps r.steps (r.letters ++ (r.qualities ++ (last ++ t))) steps_start_lem _ (begins_read ∙ simp append_assoc) length_before fit.steps_agree

  letters_follow : file ≡ (before_steps ++ r.steps) ++ (r.letters ++ (r.qualities ++ (last ++ t)))
  unfolding before_steps
  letters_follow = begins_read ∙ simp append_assoc

  length_letters : length (before_steps ++ r.steps) ≡ steps_start_lem + length r.letters
  length_letters = length-append before_steps r.steps ∙ omega (arith, length_before, fit.steps_agree)

  pub letters_back : take (length r.letters) (drop (steps_start_lem + length r.letters) file) ≡ r.letters
  letters_back = part_at file (before_steps ++ r.steps) r.letters _ _ _ letters_follow length_letters refl

  pub qualities_back : take (length r.letters) (drop (steps_start_lem + length r.letters + length r.letters) file) ≡ r.qualities
  qualities_back =
      part_at file ((before_steps ++ r.steps) ++ r.letters) r.qualities (last ++ t) _ _ (letters_follow ∙ simp append_assoc)
      (length-append (before_steps ++ r.steps) r.letters ∙ ap (λ (m : ℕ). m + length r.letters) length_letters) fit.qualities_agree

  -- a part of the letters
  pub among_letters : (i n : ℕ) → i + n ≤ length r.letters → take n (drop (steps_start_lem + length r.letters + i) file) ≡ take n (drop i r.letters)
  among_letters i n h =
      let a : drop (steps_start_lem + length r.letters) file ≡ r.letters ++ (r.qualities ++ (last ++ t)) = ap (drop (steps_start_lem + length r.letters)) letters_follow ∙ drop_at (before_steps ++ r.steps) _ _ length_letters in
      let l : n ≤ length (drop i r.letters) = simp length-drop (omega arith) in
      ap (take n) (sym (drop-drop i (steps_start_lem + length r.letters) file) ∙ ap (drop i) a ∙ drop-append-le i r.letters _ (omega arith)) ∙ take-append-le n (drop i r.letters) _ l
