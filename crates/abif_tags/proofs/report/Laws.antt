-- The report, step by step.
use Prim.Native.Nat.{ℕ, suc, ◌+◌, ◌*◌, ◌≤◌, ◌<◌}
use mathlib.Core.Path.{◌≡◌, refl, sym, ◌∙◌, ap}
use mathlib.Core.List.{List, [], ◌∷◌, ◌++◌, map, append_assoc, append-nil}
use mathlib.Core.Bool.{Bool, true, false, not}
use denote.Enum.Bare.{sameb}
use Rattle.abif_tags.specs.contracts.table.Presence.{the_type}
use Rattle.abif_tags.specs.declared.table.Presence.{Presence}
use Rattle.abif_tags.specs.declared.table.Presence.TheVariants.{Absent, Required, Optional}
use lib.Dec.{ltb}
use Rattle.reading.specs.Choice.{pick}
use native.Mathlib.Omega.{arith}
use lib.IntN.{ℤ, pos}
use borrow.Author.Tests.{lt-ltb}
use native.Mathlib.Numerals.{add-one}
use lib.ListN.{length, get_or, take, drop, set, length-append, drop_of_length-le, take-append-drop, get_or-map, length-map, length-set}
use lib.Seq.{drop-cons, drop-drop, sets, sets-eq, length-sets, drop_at, take-suc-set, drop-set-lt, length-take-le}
use Rattle.std.proofs.lemmas.List.{map-append}
use Rattle.reading.proofs.Fill.{front_sets}
use Rattle.abif.specs.declared.tag.Tag.{Tag}
use Rattle.abif.specs.Tag.{tag_of, tag_below}
use Rattle.abif.specs.declared.entry.Entry.{Entry}
use Rattle.abif.specs.Entry.{entry_of}
use Rattle.abif_tags.specs.declared.table.Row.{Row}
use Rattle.abif_tags.specs.Table.{table, row_count, no_row, row_in, row_at, row_for, is_required, agrees}
use Rattle.abif_tags.specs.Order.{tag_at}
use Rattle.abif_tags.specs.Report.{Finding, missing, other_type, not_in_profile, of_entry, of_entries, up_to_row, side_by_side, finding_numbers}
use Rattle.std.proofs.Common.{Ordering, Less, Equal, Greater, is_lt, is_gt}
use Rattle.abif_tags.proofs.TagCmp.{tag_cmp, is_below, is_above}
use Rattle.abif_tags.specs.declared.order.Tagged.{Tagged}
use Rattle.abif_tags.specs.Kind.{kind_number}
use Rattle.abif_tags.specs.declared.finding.Kind.TheVariants.{OtherType, NotInProfile}
use Rattle.abif_tags.specs.declared.finding.Finding as code
use Rattle.abif_tags.specs.Private.{row_if, finding_of, told}
use Rattle.abif_tags.proofs.finding.Laws.{numbers_length}
use Rattle.std.specs.Prelude.{Option, Some, None}

-- what is found of an entry, from the row that stands for its tag
module _ (profile : ℕ) (entry : Entry) where
  abbrev pub found : Option Row → List Finding
  found None = not_in_profile (tag_of entry) ∷ []
  found (Some row) = pick (agrees row.published entry.element_type entry.element_count) [] (other_type (tag_of entry) ∷ [])

  pub found_is : (o : Option Row) (tag : Tag) → tag ≡ tag_of entry → o ≡ row_if profile (row_for profile tag) → found o ≡ of_entry profile entry
  unfolding of_entry
  found_is o tag t e = ap found (e ∙ ap (λ (x : Tag). row_if profile (row_for profile x)) t) ∙ go (ltb k row_count)
    where
      k : ℕ
      k = row_for profile (tag_of entry)

      go : (t : Bool) → found (pick t (Some (row_at profile k)) None) ≡ pick t (pick (agrees (row_at profile k).published entry.element_type entry.element_count) [] (other_type (tag_of entry) ∷ [])) (not_in_profile (tag_of entry) ∷ [])
      go true = refl
      go false = refl

  module _ (row : Row) (tag : Tag) (t : tag ≡ tag_of entry) (e : Some row ≡ row_if profile (row_for profile tag)) where
    pub found_same : agrees row.published entry.element_type entry.element_count ≡ true → [] ≡ of_entry profile entry
    found_same a = sym (ap (λ (b : Bool). pick b [] (other_type (tag_of entry) ∷ [])) a) ∙ found_is (Some row) tag t e

    pub found_other : agrees row.published entry.element_type entry.element_count ≡ false → other_type tag ∷ [] ≡ of_entry profile entry
    found_other a = ap (λ (x : Tag). other_type x ∷ []) t ∙ sym (ap (λ (b : Bool). pick b [] (other_type (tag_of entry) ∷ [])) a) ∙ found_is (Some row) tag t e

-- the same, from the number of that row
module _ (profile : ℕ) (bytes : List ℕ) (place i k : ℕ) (tag : Tag) (et : tag ≡ tag_at bytes place i) (ek : k ≡ row_for profile tag) where
  pub of_none : k ≡ 112 → told (Some (record { tag = tag; kind = NotInProfile })) ≡ of_entry profile (entry_of bytes (place + 28 * i))
  unfolding tag_at
  of_none h =
      let n : None ≡ row_if profile (row_for profile tag) = ap (row_if profile) (sym h ∙ ek) in
      ap (λ (t : Tag). not_in_profile t ∷ []) et ∙ found_is profile (entry_of bytes (place + 28 * i)) None tag et n

  module _ (h : k < 112) where
    row_there : Some (row_at profile k) ≡ row_if profile (row_for profile tag)
    row_there =
        let g : row_if profile k ≡ Some (row_at profile k) = simp (lt-ltb k 112 h) in
        sym g ∙ ap (row_if profile) ek

    pub of_same : agrees (row_at profile k).published (entry_of bytes (place + 28 * i)).element_type (entry_of bytes (place + 28 * i)).element_count ≡ true → told None ≡ of_entry profile (entry_of bytes (place + 28 * i))
    unfolding tag_at
    of_same e = found_same profile (entry_of bytes (place + 28 * i)) (row_at profile k) tag et row_there e

    pub of_other : agrees (row_at profile k).published (entry_of bytes (place + 28 * i)).element_type (entry_of bytes (place + 28 * i)).element_count ≡ false → told (Some (record { tag = tag; kind = OtherType })) ≡ of_entry profile (entry_of bytes (place + 28 * i))
    unfolding tag_at
    of_other e = found_other profile (entry_of bytes (place + 28 * i)) (row_at profile k) tag et row_there e

-- what the code's comparison of a presence tells
pub required_by : (p : Presence) (b : Bool) → b ≡ not (sameb the_type p Required) → is_required p ≡ not b
required_by Absent b h = sym (ap not h)
required_by Required b h = sym (ap not h)
required_by Optional b h = sym (ap not h)

-- the entries and the rows that are left
module _ (profile : ℕ) (bytes : List ℕ) (place : ℕ) (entries : List Tagged) where
  abbrev order : List ℕ
  order = map (λ t. t.entry) entries

  abbrev at : ℕ → Tagged
  at i = get_or entries i (record { tag = record { name = 0; number = pos 0 }; entry = 0 })

  order_length : length order ≡ length entries
  order_length = simp length-map

  abbrev Left : ℕ → ℕ → List Finding
  Left i j = side_by_side profile bytes place (drop j (map (row_in profile) table)) (drop i order)

  rows_length : length (map (row_in profile) table) ≡ 112
  unfolding table
  rows_length = refl

  row_here : (j : ℕ) → j < 112 → drop j (map (row_in profile) table) ≡ row_at profile j ∷ drop (j + 1) (map (row_in profile) table)
  unfolding row_at
  row_here j h =
      let e : suc j ≡ j + 1 = omega arith in
      drop-cons (map (row_in profile) table) j (row_in profile no_row) (omega (arith, rows_length))
      ∙ ap (λ (r : Row). r ∷ drop (suc j) (map (row_in profile) table)) (get_or-map (row_in profile) table j no_row)
      ∙ ap (λ (k : ℕ). row_in profile (get_or table j no_row) ∷ drop k (map (row_in profile) table)) e

  no_row_lem : (j : ℕ) → 112 ≤ j → drop j (map (row_in profile) table) ≡ []
  no_row_lem j h = drop_of_length-le (map (row_in profile) table) {i = j} (omega (arith, rows_length))

  entry_here : (i : ℕ) → i < length entries → drop i order ≡ (at i).entry ∷ drop (i + 1) order
  entry_here i h =
      let e : suc i ≡ i + 1 = omega arith in
      drop-cons order i 0 (omega (arith, order_length)) ∙ λ k. get_or-map (λ (t : Tagged). t.entry) entries i (record { tag = record { name = 0; number = pos 0 }; entry = 0 }) k ∷ drop (e k) order

  no_entry : (i : ℕ) → length entries ≤ i → drop i order ≡ []
  no_entry i h = drop_of_length-le order {i = i} (omega (arith, order_length))

  abbrev Of : ℕ → List Finding
  Of i = of_entry profile (entry_of bytes (place + 28 * (at i).entry))

  -- no row is left
  pub left_entry : (i j : ℕ) → i < length entries → 112 ≤ j → Left i j ≡ Of i ++ Left (i + 1) j
  unfolding side_by_side of_entries
  left_entry i j h k = simp (no_row_lem j k, entry_here i h)

  pub left_none : (i j : ℕ) → length entries ≤ i → 112 ≤ j → Left i j ≡ []
  unfolding side_by_side of_entries
  left_none i j h k = simp (no_row_lem j k, no_entry i h)

  module _ (i j : ℕ) (h : j < 112) (r : Row) (e : r ≡ row_at profile j) where
    -- the row's first tag is not required
    pub left_row : is_required r.presence ≡ false → Left i j ≡ Left i (j + 1)
    unfolding side_by_side
    left_row q = rw (row_here j h, ← e, q)

    module _ (q : is_required r.presence ≡ true) where
      -- it is, and no entry is left
      pub left_missing : length entries ≤ i → Left i j ≡ missing r.first ∷ Left i (j + 1)
      unfolding side_by_side up_to_row
      left_missing k = rw (row_here j h, ← e, q, no_entry i k)

      module _ (k : i < length entries) (ea : (at i).tag ≡ tag_at bytes place (at i).entry) where
        under : Less ≡ tag_cmp (at i).tag r.first → tag_below (tag_at bytes place (at i).entry) r.first ≡ true
        under o = ap (λ (x : Tag). tag_below x r.first) (sym ea) ∙ sym (is_below (at i).tag r.first) ∙ ap is_lt (sym o)

        level : (o : Ordering) → is_lt o ≡ false → o ≡ tag_cmp (at i).tag r.first → tag_below (tag_at bytes place (at i).entry) r.first ≡ false
        level o f q = ap (λ (x : Tag). tag_below x r.first) (sym ea) ∙ sym (is_below (at i).tag r.first) ∙ ap is_lt (sym q) ∙ f

        over : (o : Ordering) → o ≡ tag_cmp (at i).tag r.first → tag_below r.first (tag_at bytes place (at i).entry) ≡ is_gt o
        over o q = ap (tag_below r.first) (sym ea) ∙ sym (is_above (at i).tag r.first) ∙ ap is_gt (sym q)

        -- the entry's tag is below the row's first, the same, or above it
        pub left_below : Less ≡ tag_cmp (at i).tag r.first → Left i j ≡ Of i ++ Left (i + 1) j
        unfolding side_by_side up_to_row
        left_below o = rw (row_here j h, ← e, q, entry_here i k, under o)

        pub left_both : Equal ≡ tag_cmp (at i).tag r.first → Left i j ≡ Of i ++ Left (i + 1) (j + 1)
        unfolding side_by_side up_to_row
        left_both o = rw (row_here j h, ← e, q, entry_here i k, level Equal refl o, over Equal o)

        pub left_above : Greater ≡ tag_cmp (at i).tag r.first → Left i j ≡ missing r.first ∷ Left i (j + 1)
        unfolding side_by_side up_to_row
        left_above o = rw (row_here j h, ← e, q, entry_here i k, level Greater refl o, over Greater o)

-- the numbers of findings behind findings
numbers_append : (a b : List Finding) → finding_numbers (a ++ b) ≡ finding_numbers a ++ finding_numbers b
numbers_append [] b = refl
numbers_append (f ∷ a) b = ap (λ (l : List ℤ). pos f.tag.name ∷ f.tag.number ∷ pos f.kind ∷ l) (numbers_append a b)

-- a finding's numbers, one by one
pub told_numbers : (out : List ℤ) (m : ℕ) (f : code.Finding) → set (set (set out (3 * m) (pos f.tag.name)) (3 * m + 1) f.tag.number) (3 * m + 2) (pos (kind_number f.kind)) ≡ sets out (3 * m) (finding_numbers (told (Some f)))
told_numbers out m f =
    let a : 3 * m + 1 ≡ suc (3 * m) = omega arith in
    let b : 3 * m + 2 ≡ suc (suc (3 * m)) = omega arith in
    rw (a, b)

pub told_one : (f : code.Finding) → length (told (Some f)) ≡ 1
told_one f = refl

pub told_few : (o : Option code.Finding) → length (told o) ≤ 1
told_few None = omega arith
told_few (Some f) = omega arith

-- A report is written up to m findings, and these are left.
pub record Written (whole rest : List Finding) (m : ℕ) (o out : List ℤ) : Type 0 where
  pub front : take (3 * m) out ++ finding_numbers rest ≡ finding_numbers whole
  pub behind : drop (3 * m) out ≡ drop (3 * m) o
  pub count : m + length rest ≡ length whole
  pub same : length out ≡ length o

pub written_start : (whole : List Finding) (o : List ℤ) → Written whole whole 0 o o
written_start whole o = record { front = refl; behind = refl; count = omega arith; same = refl }

module _ (whole rest : List Finding) (m : ℕ) (o out : List ℤ) (w : Written whole rest m o out) where
  -- the next findings are written
  pub written_next : (a rest' : List Finding) → rest ≡ a ++ rest' → 3 * m + 3 * length a ≤ length o → Written whole rest' (m + length a) o (sets out (3 * m) (finding_numbers a))
  written_next a rest' e h =
      let v = finding_numbers a in
      let l : length v ≡ 3 * length a = numbers_length a in
      let k : 3 * (m + length a) ≡ 3 * m + 3 * length a = omega arith in
      let s : length out ≡ length o = w.same in
      let q : sets out (3 * m) v ≡ take (3 * m) out ++ v ++ drop (3 * m + length v) out = sets-eq v out (3 * m) (omega arith) in
      let t : take (3 * m + 3 * length a) (sets out (3 * m) v) ≡ take (3 * m) out ++ v = front_sets v out (3 * m) (3 * length a) l (omega arith) in
      let z : length (take (3 * m) out ++ v) ≡ 3 * m + 3 * length a = length-append (take (3 * m) out) v ∙ ap (λ (x : ℕ). x + length v) (length-take-le (3 * m) out (omega arith)) ∙ ap (λ (x : ℕ). 3 * m + x) l in
      let d : drop (3 * m + 3 * length a) (sets out (3 * m) v) ≡ drop (3 * m + length v) out = ap (drop (3 * m + 3 * length a)) q ∙ drop_at (take (3 * m) out ++ v) (drop (3 * m + length v) out) (3 * m + 3 * length a) z in
      let y : length rest ≡ length a + length rest' = ap length e ∙ length-append a rest' in
      record {
        front = ap (λ (x : ℕ). take x (sets out (3 * m) v) ++ finding_numbers rest') k ∙ ap (λ (x : List ℤ). x ++ finding_numbers rest') t ∙ append_assoc (take (3 * m) out) v (finding_numbers rest') ∙ ap (λ (x : List ℤ). take (3 * m) out ++ x) (sym (numbers_append a rest') ∙ ap finding_numbers (sym e)) ∙ w.front;
        behind = ap (λ (x : ℕ). drop x (sets out (3 * m) v)) k ∙ d ∙ sym (drop-drop (length v) (3 * m) out) ∙ ap (drop (length v)) w.behind ∙ drop-drop (length v) (3 * m) o ∙ ap (λ (x : ℕ). drop x o) (ap (λ (x : ℕ). 3 * m + x) l ∙ sym k);
        count = omega (arith, w.count);
        same = length-sets out (3 * m) v ∙ s;
      }

  -- none is left
  pub written_end : rest ≡ [] → (m ≡ length whole) × (out ≡ finding_numbers whole ++ drop (3 * m) o)
  written_end e =
      let c : m + length rest ≡ length whole = w.count in
      let z : length rest ≡ 0 = ap length e in
      (omega arith, sym (take-append-drop (3 * m) out) ∙ ap (λ (x : List ℤ). take (3 * m) out ++ x) w.behind ∙ ap (λ (x : List ℤ). x ++ drop (3 * m) o) (sym (append-nil (take (3 * m) out)) ∙ ap (λ (x : List Finding). take (3 * m) out ++ finding_numbers x) (sym e) ∙ w.front))

-- A report is gathered up to m findings, and these are left.
pub record Gathered (whole rest : List Finding) (m : ℕ) (o out : List code.Finding) : Type 0 where
  pub front : map finding_of (take m out) ++ rest ≡ whole
  pub behind : drop m out ≡ drop m o
  pub same : length out ≡ length o

module _ (whole rest : List Finding) (m : ℕ) (o out : List code.Finding) (g : Gathered whole rest m o out) where
  -- the next finding is gathered
  pub gathered_next : m < length o → (f : code.Finding) (rest' : List Finding) → rest ≡ told (Some f) ++ rest' → Gathered whole rest' (m + 1) o (set out m f)
  gathered_next h f rest' e =
      let s : length out ≡ length o = g.same in
      let t : take (suc m) (set out m f) ≡ take m out ++ (f ∷ []) = take-suc-set out m f (omega arith) in
      record {
        front = rw (add-one m, t, map-append finding_of (take m out) (f ∷ []), append_assoc) (ap (λ (x : List Finding). map finding_of (take m out) ++ x) (sym e) ∙ g.front);
        behind = drop-set-lt (m + 1) out m f (omega arith) ∙ sym (drop-drop 1 m out) ∙ ap (drop 1) g.behind ∙ drop-drop 1 m o;
        same = length-set out m f ∙ s;
      }

  -- none is left
  pub gathered_end : rest ≡ [] → m ≤ length o → (m ≡ length whole) × (map finding_of (take m out) ≡ whole)
  gathered_end e h =
      let s : length out ≡ length o = g.same in
      let w : map finding_of (take m out) ≡ whole = sym (append-nil (map finding_of (take m out))) ∙ ap (λ (x : List Finding). map finding_of (take m out) ++ x) (sym e) ∙ g.front in
      (sym (length-take-le m out (omega arith)) ∙ sym (length-map (take m out) finding_of) ∙ ap length w, w)
