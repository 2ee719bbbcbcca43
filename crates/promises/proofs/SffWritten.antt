-- The round trip of SFF.
use Prim.Native.Nat.{ℕ, zero, suc, ◌+◌, ◌-◌, ◌*◌, ◌≤◌, ◌<◌}
use mathlib.Core.Path.{◌≡◌, refl, sym, ◌∙◌, ap, subst}
use mathlib.Core.List.{List, [], ◌++◌, append_assoc, append-nil}
use mathlib.Core.Bool.{Bool, true, false}
use native.Mathlib.Nat.{zero-add}
use native.Mathlib.Omega.{arith}
use lib.Dec.{leb}
use lib.ListN.{length, take, drop, get_or, length-append}
use borrow.Author.Count.{below_more}
use borrow.Author.Tests.{leb-true, leb-false}
use Rattle.reading.specs.Number.{be}
use Rattle.reading.specs.Check.{ok, answer, holds}
use Rattle.reading.proofs.Width.{be_in_part}
use Rattle.reading.proofs.Passed.{bind_ok, must_ok}
use Rattle.sff_fields.specs.declared.header.Header.{Header}
use Rattle.sff.specs.Header.{header}
use Rattle.sff.specs.Read.{framing}
use Rattle.sff_fields.specs.Read.{data_start, read_end, steps_start, letters_start}
use Rattle.sff.specs.Walk.{first_boundary, Passage, walk}
use Rattle.sff_fields.specs.Clips.{clips_check, first_base, last_base, insert_from}
use Rattle.contents.specs.Steps.{steps_check}
use Rattle.sff.specs.Lookup.{read_from, read_reading}
use Rattle.sff_fields.specs.Parts.{read_of}
use Rattle.sff_fields.proofs.padding.Laws.{padded_bounds}
use Rattle.contents.proofs.steps.Laws.{steps_window}
use Rattle.sff.proofs.lookup.Laws.{last_below}
use Rattle.sff.proofs.NoIndex.{framing_passes, read_from_passes, clips_any, steps_any, walk_passes, walk_start, judging_passes, number_passes, number_none, number_past}
use Rattle.writing.specs.Put.{put}
use Rattle.writing.proofs.Over.{take_put}
use Rattle.writing.proofs.Words.{word_back}
use Rattle.sff_write.specs.declared.write.Writer.{Writer}
use Rattle.sff_write.specs.Header.{header_size, header_bytes}
use Rattle.sff_write.specs.Read.{GivenRead, header_with, header_for, read_bytes}
use Rattle.sff_write.specs.Private.{Fitting}
use Rattle.sff_write.specs.Write.{Piece, beginning, adding}
use Rattle.sff_write.proofs.write.Laws.{begin_passed, add_passed, finish_passed}
use Rattle.sff_write.proofs.Back.{header_length_lem, header_back, header_back_lem, flow_letters_back, key_back, read_end_lem, present_back, name_back, flows_back, steps_back, letters_back, qualities_back, among_letters}
use Rattle.reading.specs.Part.{bytes_at}
use Rattle.promises.specs.SffWritten.{Session, begun, added, ReadIs, HoldsReads, ReadsFitTypes, SffReadsBack}

-- the letters from base m to base n stand in the file as they were given
insert_same : (s letters : List ℕ) (p m n : ℕ) → 1 ≤ m → n ≤ length letters → ((i j : ℕ) → i + j ≤ length letters → take j (drop (p + i) s) ≡ take j (drop i letters)) → bytes_at s (insert_from p m n) ≡ bytes_at letters (insert_from 0 m n)
insert_same s letters p m n h k f = go (leb m n) refl
  where
    go : (b : Bool) → leb m n ≡ b → bytes_at s (insert_from p m n) ≡ bytes_at letters (insert_from 0 m n)
    go true e =
        let l = leb-true m n e in
        let z : 0 + (m - 1) ≡ m - 1 = omega arith in
        rw (e, z) (f (m - 1) (n + 1 - m) (omega arith))
    go false e = rw e

-- a read behind u that was accepted as number k
module _ (u t : List ℕ) (f k : ℕ) (r : GivenRead) (fit : Fitting f r) (clips : answer (clips_check (header_for (length u) r)) [] ≡ ok tt) (steps : answer (steps_check f r.steps 0 (length r.steps)) [] ≡ ok tt) (small : (i : ℕ) → get_or r.flows i 0 < 65536) where
  abbrev file : List ℕ
  file = u ++ (read_bytes (header_for (length u) r) r ++ t)

  -- the steps, where the reader checks them
  steps_there : answer (steps_check f (u ++ read_bytes (header_for (length u) r) r) (steps_start f (header_for (length u) r)) (header_for (length u) r).bases) file ≡ ok tt
  unfolding header_with
  steps_there =
      let l = u ++ read_bytes (header_for (length u) r) r in
      let z : u ++ (read_bytes (header_for (length u) r) r ++ []) ≡ l = ap (λ (x : List ℕ). u ++ x) (append-nil _) in
      let p = steps_start f (header_for (length u) r) in
      let b = length r.letters in
      let q : take b (drop p l) ≡ r.steps = ap (λ (x : List ℕ). take b (drop p x)) (sym z) ∙ steps_back u [] f r fit in
      let e : read_end f (header_for (length u) r) ≡ length l = read_end_lem u [] f r fit in
      let h = padded_bounds (2 * f + 3 * b) in
      sym (steps_window l p b b refl (omega arith) f file) ∙ ap (λ (x : List ℕ). answer (steps_check f x 0 (length x)) file) q ∙ steps_any f r.steps 0 (length r.steps) file [] ∙ steps

  right_clip_lem : r.clips.quality_right ≤ length r.letters
  unfolding header_with clips_check holds
  right_clip_lem =
      let a = bind_ok _ _ [] tt clips in
      let b = bind_ok _ _ [] tt a.2 in
      leb-true _ _ (must_ok _ _ _ [] b.0 b.1)

  read_is : answer (read_reading k) file ≡ answer (read_from f (length u)) file → ReadIs file k r
  unfolding read_of header_with
  read_is h =
      let d = header_for (length u) r in
      let last = last_below d (last_base d) refl in
      let c = right_clip_lem in
      record {
        read = read_of f d;
        found = h ∙ read_from_passes f (length u) file _ d (present_back u t f r fit) (clips_any d file [] ∙ clips) steps_there;
        name = name_back u t f r fit;
        flows = sym fit.flows_agree;
        flow = λ i q.
            let e = fit.flows_agree in
            let p = data_start d in
            sym (be_in_part 2 p (2 * f) (2 * i) file (omega arith)) ∙ ap (λ (x : List ℕ). be 2 x (2 * i)) (flows_back u t f r fit) ∙ word_back r.flows i (length r.flows) 0 q (small (0 + i)) ∙ ap (λ (j : ℕ). get_or r.flows j 0) (zero-add i);
        bases = refl;
        steps = steps_back u t f r fit;
        letters = letters_back u t f r fit;
        qualities = qualities_back u t f r fit;
        quality_left = refl;
        quality_right = refl;
        adapter_left = refl;
        adapter_right = refl;
        insert = insert_same file r.letters (letters_start f d) (first_base d) (last_base d) (omega arith) (omega arith) (among_letters u t f r fit);
      }

module _ (n : ℕ) (letters key : List ℕ) (g : ℕ → GivenRead) where
  -- the file with its first m reads
  up_to : ℕ → List ℕ
  up_to zero = header_bytes n letters key
  up_to (suc m) = up_to m ++ read_bytes (header_for (length (up_to m)) (g m)) (g m)

  -- read k as it was accepted
  record Sound (k : ℕ) : Type 0 where
    fit : Fitting (length letters) (g k)
    clips : answer (clips_check (header_for (length (up_to k)) (g k))) [] ≡ ok tt
    steps : answer (steps_check (length letters) (g k).steps 0 (length (g k).steps)) [] ≡ ok tt

  -- what holds after a session
  record State (m : ℕ) (w : Writer) (o : List ℕ) : Type 0 where
    stated : w.reads ≡ n
    count : w.written ≡ m
    flows : w.flows ≡ length letters
    place : w.at ≡ length (up_to m)
    held : take w.at o ≡ up_to m
    fits : header_size letters key ≤ 65535
    sound : (k : ℕ) → k < m → Sound k

  state_begun : (o : List ℕ) (x : Piece) → answer (beginning n letters key (length o)) [] ≡ ok x → State 0 x.state (put o 0 x.bytes)
  unfolding up_to
  state_begun o x h =
      let b = begin_passed n letters key (length o) x h in
      let l = header_length_lem n letters key in
      let r : 0 + length (header_bytes n letters key) ≤ length o = omega (arith, b.enough) in
      let t : take (0 + length (header_bytes n letters key)) (put o 0 (header_bytes n letters key)) ≡ header_bytes n letters key = take_put o 0 (header_bytes n letters key) r in
      let z : header_size letters key ≡ 0 + length (header_bytes n letters key) = omega arith in
      subst (λ (y : Piece). State 0 y.state (put o 0 y.bytes)) (sym b.piece)
      (record { stated = refl; count = refl; flows = refl; place = sym l; held = ap (λ (k : ℕ). take k (put o 0 (header_bytes n letters key))) z ∙ t; fits = b.fits; sound = λ k q. absurd (omega arith) })

  state_added : (m : ℕ) (w : Writer) (o : List ℕ) (x : Piece) → State m w o → answer (adding w (g m) (length o)) [] ≡ ok x → State (suc m) x.state (put o w.at x.bytes)
  unfolding up_to
  state_added m w o x s h =
      let a = add_passed w (g m) (length o) x h in
      let v = read_bytes (header_for w.at (g m)) (g m) in
      let e : v ≡ read_bytes (header_for (length (up_to m)) (g m)) (g m) = ap (λ (p : ℕ). read_bytes (header_for p (g m)) (g m)) s.place in
      let t : take (w.at + length v) (put o w.at v) ≡ up_to m ++ v = take_put o w.at v a.enough ∙ ap (λ (l : List ℕ). l ++ v) s.held in
      let p : w.at + length v ≡ length (up_to m ++ read_bytes (header_for (length (up_to m)) (g m)) (g m)) = rw (length-append, ← e, s.place) in
      let z : Sound m =
      record {
        fit = subst (λ (f : ℕ). Fitting f (g m)) s.flows a.fit;
        clips = subst (λ (p : ℕ). answer (clips_check (header_for p (g m))) [] ≡ ok tt) s.place a.clips;
        steps = subst (λ (f : ℕ). answer (steps_check f (g m).steps 0 (length (g m).steps)) [] ≡ ok tt) s.flows a.steps;
      } in
      subst (λ (y : Piece). State (suc m) y.state (put o w.at y.bytes)) (sym a.piece)
      (record { stated = s.stated; count = ap (λ (k : ℕ). k + 1) s.count ∙ omega arith; flows = s.flows; place = p; held = t ∙ ap (λ (l : List ℕ). up_to m ++ l) e; fits = s.fits; sound = λ k h. below_more Sound m s.sound z k (omega arith) })

  state : (m : ℕ) (w : Writer) (o : List ℕ) → Session n letters key g m w o → State m w o
  state zero w o (begun l x h) = state_begun l x h
  state (suc m) w o (added k v l x s h) = state_added k v l x (state k v l s) h

  -- a beginning of the file, and what follows it
  follows : (m k : ℕ) → k ≤ m → (t : List ℕ) × (up_to m ≡ up_to k ++ t)
  unfolding up_to
  follows zero k h =
      let e : 0 ≡ k = omega arith in
      ([], subst (λ (j : ℕ). up_to 0 ≡ up_to j ++ []) e (sym (append-nil _)))
  follows (suc m) k h = go (leb k m) refl (follows m k)
    where
      go : (b : Bool) → leb k m ≡ b → (k ≤ m → (t : List ℕ) × (up_to m ≡ up_to k ++ t)) → (t : List ℕ) × (up_to (suc m) ≡ up_to k ++ t)
      go true e f =
          let v = f (leb-true k m e) in
          (v.0 ++ read_bytes (header_for (length (up_to m)) (g m)) (g m), ap (λ (l : List ℕ). l ++ read_bytes (header_for (length (up_to m)) (g m)) (g m)) v.1 ∙ append_assoc (up_to k) v.0 (read_bytes (header_for (length (up_to m)) (g m)) (g m)))
      go false e f =
          let l = leb-false k m e in
          let q : suc m ≡ k = omega arith in
          ([], subst (λ (j : ℕ). up_to (suc m) ≡ up_to j ++ []) q (sym (append-nil (up_to (suc m)))))

  positive : (m : ℕ) → 0 < length (up_to m)
  unfolding up_to
  positive m =
      let v = follows m 0 (omega arith) in
      let h = padded_bounds (31 + length letters + length key) in
      let l : length (up_to m) ≡ header_size letters key + length v.0 = ap length v.1 ∙ length-append (up_to 0) v.0 ∙ ap (λ (j : ℕ). j + length v.0) (header_length_lem n letters key) in
      omega arith

  module _ (lent : ReadsFitTypes n g) (fits : header_size letters key ≤ 65535) (sound : (k : ℕ) → k < n → Sound k) where
    abbrev whole_file_lem : List ℕ
    whole_file_lem = up_to n

    abbrev fields_back : Header
    fields_back = header_back n letters key lent.reads fits

    header_is : answer header (up_to n) ≡ ok fields_back
    unfolding up_to
    header_is =
        let v = follows n 0 (omega arith) in
        ap (answer header) v.1 ∙ header_back_lem n letters key lent.reads fits v.0

    -- read k, with what stands before it and behind it
    read_at : (k : ℕ) → k < n → (t : List ℕ) × (up_to n ≡ up_to k ++ (read_bytes (header_for (length (up_to k)) (g k)) (g k) ++ t))
    unfolding up_to
    read_at k h =
        let v = follows n (suc k) h in
        (v.0, v.1 ∙ append_assoc (up_to k) _ v.0)

    framing_is : (k : ℕ) → k < n → answer (framing (length letters) (length (up_to k))) (up_to n) ≡ ok (length (up_to (suc k)))
    unfolding up_to
    framing_is k h =
        let v = read_at k h in
        let fit = (sound k h).fit in
        ap (answer (framing (length letters) (length (up_to k)))) v.1 ∙ framing_passes _ _ _ _ (present_back (up_to k) v.0 (length letters) (g k) fit) ∙ ap ok (read_end_lem (up_to k) v.0 (length letters) (g k) fit)

    -- the walk over the first k reads
    walked : (k : ℕ) → k ≤ n → (v : Passage) × (answer (walk fields_back k 0 (first_boundary fields_back)) (up_to n) ≡ ok v) × (v.behind.position ≡ length (up_to k))
    unfolding up_to
    walked zero h =
        let w = walk_start fields_back (up_to n) refl in
        (w.0, w.1, w.2 ∙ sym (header_length_lem n letters key))
    walked (suc k) h =
        let v = walked k (omega arith) in
        let p = positive k in
        let f = subst (λ (j : ℕ). answer (framing (length letters) j) (up_to n) ≡ ok (length (up_to (suc k)))) (sym v.2) (framing_is k h) in
        let w = walk_passes fields_back (up_to n) refl k (length (up_to (suc k))) v.0 v.1 (rw v.2 p) f in
        let e : k + 1 ≡ suc k = omega arith in
        (w.0, subst (λ (j : ℕ). answer (walk fields_back j 0 (first_boundary fields_back)) (up_to n) ≡ ok w.0) e w.1, w.2)

    each : (k : ℕ) → k < n → ReadIs (up_to n) (k + 1) (g k)
    each k h =
        let v = walked k (omega arith) in
        let z = sound k h in
        let t = read_at k h in
        let q = number_passes fields_back (up_to n) refl header_is k v.0 (length (up_to k)) h v.1 v.2 (positive k) in
        subst (λ (s : List ℕ). ReadIs s (k + 1) (g k)) (sym t.1) (read_is (up_to k) t.0 (length letters) (k + 1) (g k) z.fit z.clips z.steps (lent.flows k) (subst (λ (s : List ℕ). answer (read_reading (k + 1)) s ≡ answer (read_from (length letters) (length (up_to k))) s) t.1 q))

    reads_back : HoldsReads n letters key g (up_to n)
    unfolding up_to
    reads_back =
        let v = walked n (omega arith) in
        let t = follows n 0 (omega arith) in
        let few = lent.reads in
        record {
          whole = judging_passes fields_back (up_to n) refl header_is v.0 v.1 (rw v.2 (positive n)) ∙ ap ok v.2;
          fields = fields_back;
          has_header = header_is;
          reads = refl;
          flows = refl;
          key_length = refl;
          flow_letters = ap (λ (s : List ℕ). take (length letters) (drop 31 s)) t.1 ∙ flow_letters_back n letters key few fits t.0;
          key_letters = ap (λ (s : List ℕ). take (length key) (drop (31 + length letters) s)) t.1 ∙ key_back n letters key few fits t.0;
          each = each;
          first = number_none fields_back (up_to n) refl header_is;
          last = λ k h. number_past fields_back (up_to n) refl header_is k h;
        }

pub sff_reads_back : SffReadsBack
sff_reads_back n letters key g m w o x lent s h =
    let a = state n letters key g m w o s in
    let b = finish_passed w x h in
    let e : m ≡ n = sym a.count ∙ b.0 ∙ a.stated in
    let f : up_to n letters key g n ≡ take x o = ap (up_to n letters key g) (sym e) ∙ sym a.held ∙ ap (λ (k : ℕ). take k o) b.1 in
    let l : length (take x o) ≡ x = ap length (sym f) ∙ ap (λ (k : ℕ). length (up_to n letters key g k)) (sym e) ∙ sym a.place ∙ b.1 in
    (e, l, subst (HoldsReads n letters key g) f (reads_back n letters key g lent a.fits (λ k l. a.sound k (omega arith))))
