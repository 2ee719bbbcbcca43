-- The table's rows, and the search for one.
use Prim.Native.Nat.{ℕ, ◌+◌, ◌≤◌, ◌<◌}
use mathlib.Core.Path.{◌≡◌, refl, sym, ◌∙◌, ap, subst}
use mathlib.Core.List.{List, [], ◌∷◌, map}
use mathlib.Core.Bool.{Bool, true, false, not}
use Rattle.std.specs.Prelude.{Some, None}
use native.Mathlib.Omega.{arith}
use lib.Dec.{leb, ltb, eqb}
use lib.IntN.{pos}
use lib.Signed.{lt_z, le_z}
use lib.ListN.{length, get_or, get_or-map, length-map}
use Rattle.std.proofs.lemmas.List.{get_or_default}
use Rattle.std.specs.List.Sorted.{IsPartitionedBy, IsPartitionPoint}
use borrow.Author.Tests.{ltb-true, eqb-true, leb-true, leb-false, ltb-false, eqb-false, lt-ltb, le-leb, lt-leb, ne_eqb}
use Rattle.reading.specs.Choice.{pick, is_number_of}
use Rattle.reading.proofs.Entries.{first_is, first_none}
use Rattle.reading.proofs.Match.{InNone}
use Rattle.reading.proofs.Tests.{no, span, number_within}
use Rattle.abif.specs.declared.tag.Tag.{Tag}
use Rattle.abif.specs.Tag.{tag_below}
use Rattle.abif_tags.specs.declared.table.Row.{Row}
use Rattle.abif_tags.specs.declared.table.Presence.{Presence}
use Rattle.abif_tags.specs.declared.table.PrintedRow.{PrintedRow}
use Rattle.abif_tags.specs.declared.table.PrintedRow.TheVariants.{One}
use Rattle.abif_tags.specs.declared.table.Published.TheVariants.{Of}
use Rattle.abif_tags.specs.declared.table.TheConstants.{TABLE}
use Rattle.abif_tags.specs.Table.{TableRow, table, no_row, row_in, row_at, is_there, same_tag, stands_for, stands_at, row_for}
use Rattle.abif_tags.specs.Private.{as_defined, Parted, name_reached, row_if}
use Rattle.abif_tags.proofs.Halving.{Rising}
use Rattle.abif_tags.proofs.Rows.{every_at, pairs_at}

-- the code's table is the definition's
pub table_is : map as_defined TABLE ≡ table
unfolding table
table_is = refl

row_count_is : length table ≡ 112
unfolding table
row_count_is = refl

-- a number that is none of three is past them
three_past : (p k : ℕ) → k ≤ p → (p ≡ k → ⊥) → (p ≡ k + 1 → ⊥) → (p ≡ k + 2 → ⊥) → k + 3 ≤ p
three_past p k h a b c = omega arith

pub last_profile : (p : ℕ) → is_number_of p 8 ≡ true → InNone ((7 ∷ []) ∷ (6 ∷ []) ∷ (5 ∷ []) ∷ (4 ∷ []) ∷ (3 ∷ []) ∷ (2 ∷ []) ∷ (1 ∷ []) ∷ []) p → p ≡ 8
last_profile p w n =
    let u = number_within p 8 w in
    let a = three_past p 1 u.0 n.0.0.0.0.0.0.1 n.0.0.0.0.0.1 n.0.0.0.0.1 in
    let b = three_past p 4 a n.0.0.0.1 n.0.0.1 n.0.1 in
    let c : p ≡ 7 → ⊥ = n.1 in
    omega (arith, u.1)

-- The rule of the table, of a row and one behind it: their names ascend; or the names are the same, and then the numbers ascend and neither row is 1-N, or no
-- profile has both.
abbrev shared : List Presence → List Presence → Bool
shared [] qs = false
shared (p ∷ ps) [] = false
shared (p ∷ ps) (q ∷ qs) = pick (is_there p) (pick (is_there q) true (shared ps qs)) (shared ps qs)

abbrev numbered : TableRow → TableRow → Bool
numbered a b =
    pick (shared a.presences b.presences)
    (pick a.many false (pick b.many false (lt_z a.first.number b.first.number)))
    (le_z a.first.number b.first.number)

abbrev pub ascends : TableRow → TableRow → Bool
ascends a b = pick (eqb a.first.name b.first.name) (numbered a b) (ltb a.first.name b.first.name)

pub rule : (j k : ℕ) → j < k → k < 112 → ascends (get_or table j no_row) (get_or table k no_row) ≡ true
unfolding table
rule j k h l = pairs_at ascends table refl no_row j k h l

names_ascend : (a b : TableRow) → ascends a b ≡ true → a.first.name ≤ b.first.name
names_ascend a b h = go (eqb a.first.name b.first.name) refl h
  where
    go : (t : Bool) → eqb a.first.name b.first.name ≡ t → pick t (numbered a b) (ltb a.first.name b.first.name) ≡ true → a.first.name ≤ b.first.name
    go true q w = omega (arith, eqb-true a.first.name b.first.name q)
    go false q w = omega (arith, ltb-true a.first.name b.first.name w)

-- the names from row j on
pub name_up : (j k : ℕ) → j ≤ k → k < 112 → (get_or table j no_row).first.name ≤ (get_or table k no_row).first.name
name_up j k h l = span (λ (m : ℕ). m < 112 → (get_or table j no_row).first.name ≤ (get_or table m no_row).first.name) j k h (λ _. omega arith) (λ u v. names_ascend (get_or table j no_row) (get_or table k no_row) (rule j k (omega arith) v)) l

pub names_rise : (name : ℕ) → Rising (name_reached name) 112
unfolding name_reached
names_rise name a b h l e =
    let u = leb-true name (get_or table a no_row).first.name e in
    le-leb name (get_or table b no_row).first.name (omega (arith, name_up a b h l))

-- a name is four bytes
fits_name : TableRow → Bool
fits_name r = ltb r.first.name 0x100000000

pub name_fits : (k : ℕ) → (get_or table k no_row).first.name < 0x100000000
unfolding table fits_name
name_fits k = ltb-true (get_or table k no_row).first.name 0x100000000 (every_at fits_name table refl no_row refl k)

-- rows as the code has them
module _ (t : List PrintedRow) (e : map as_defined t ≡ table) where
  printed_count : length t ≡ 112
  printed_count = omega (arith, simp length-map at (ap length e), row_count_is)

  pub row_is : (k : ℕ) → k < 112 → (d : PrintedRow) → as_defined (get_or t k d) ≡ get_or table k no_row
  row_is k h d =
      sym (get_or-map as_defined t k d) ∙ ap (λ (l : List TableRow). get_or l k (as_defined d)) e ∙ get_or_default table k (as_defined d) no_row (omega (arith, row_count_is))

  name_is : (k : ℕ) → k < 112 → (d : PrintedRow) → (as_defined (get_or t k d)).first.name ≡ (get_or table k no_row).first.name
  name_is k h d = ap (λ (r : TableRow). r.first.name) (row_is k h d)

  -- what the code's comparison of names tells
  module _ (name k : ℕ) where
    named : (get_or (map as_defined t) k no_row).first.name ≡ (get_or table k no_row).first.name
    named = ap (λ (l : List TableRow). (get_or l k no_row).first.name) e

    pub name_reached_lem : name ≤ (get_or (map as_defined t) k no_row).first.name → name_reached name k ≡ true
    unfolding name_reached
    name_reached_lem h = le-leb name (get_or table k no_row).first.name (omega (arith, named))

    pub name_below : (get_or (map as_defined t) k no_row).first.name < name → name_reached name k ≡ false
    unfolding name_reached
    name_below h = lt-leb name (get_or table k no_row).first.name (omega (arith, named))

  -- the names below one stand in front
  pub names_parted : (name : ℕ) → IsPartitionedBy (λ row. ltb (as_defined row).first.name name) t
  names_parted name i j d h l w =
      let l' : j < 112 = omega (arith, printed_count) in
      let n = ltb-true (as_defined (get_or t j d)).first.name name w in
      lt-ltb (as_defined (get_or t i d)).first.name name (omega (arith, n, name_up i j h l', name_is i (omega arith) d, name_is j l' d))

  -- where they end
  pub names_end : (name r : ℕ) → r ≤ length t → IsPartitionPoint (λ row. ltb (as_defined row).first.name name ≡ true) (λ row. ltb (as_defined row).first.name name ≡ false) t r → Parted (name_reached name) 112 r
  unfolding name_reached
  names_end name r h p =
      let d : PrintedRow = One [] (pos 0) (Of 0) [] in
      record {
        within = omega (arith, printed_count);
        below = λ k u. lt-leb name (get_or table k no_row).first.name (omega (arith, ltb-true (as_defined (get_or t k d)).first.name name (p.0 k d (omega arith) u), name_is k (omega (arith, printed_count)) d));
        from = λ k u v. le-leb name (get_or table k no_row).first.name (omega (arith, ltb-false (as_defined (get_or t k d)).first.name name (p.1 k d u (omega (arith, printed_count))), name_is k v d));
      }

-- a number below the next of k is below k, or k
span_below : (P : ℕ → Type 0) (j k : ℕ) → j < k + 1 → (j < k → P j) → P k → P j
span_below P j k h f p = go (leb (j + 1) k) refl
  where
    go : (t : Bool) → leb (j + 1) k ≡ t → P j
    go true q = f (omega (arith, leb-true (j + 1) k q))
    go false q =
        let z = leb-false (j + 1) k q in
        let e : k ≡ j = omega arith in
        subst P e p

-- two tags that are one have one name
same_name : (a b : Tag) → same_tag a b ≡ true → a.name ≡ b.name
same_name a b h = go (eqb a.name b.name) refl h
  where
    go : (t : Bool) → eqb a.name b.name ≡ t → pick (pick t (lt_z a.number b.number) (ltb a.name b.name)) false (not (tag_below b a)) ≡ true → a.name ≡ b.name
    go true q w = eqb-true a.name b.name q
    go false q w = clash (ltb a.name b.name) refl w
      where
        clash : (u : Bool) → ltb a.name b.name ≡ u → pick u false (not (tag_below b a)) ≡ true → a.name ≡ b.name
        clash true v w = no w
        clash false v w =
            let d : b.name ≡ a.name → ⊥ = λ e. eqb-false a.name b.name q (sym e) in
            let l : b.name < a.name = omega (arith, ltb-false a.name b.name v, d) in
            let f : tag_below b a ≡ true = simp (ne_eqb b.name a.name d, lt-ltb b.name a.name l) in
            no (sym (ap not f) ∙ w)

-- a row stands for tags of its name alone
stands_name : (r : Row) (tag : Tag) → stands_for r tag ≡ true → r.first.name ≡ tag.name
unfolding stands_for
stands_name r tag h = go (is_there r.presence) r.many (eqb r.first.name tag.name) refl h
  where
    go : (t m e : Bool) → eqb r.first.name tag.name ≡ e → pick t (pick m (pick e (le_z (pos 1) tag.number) false) (same_tag r.first tag)) false ≡ true → r.first.name ≡ tag.name
    go false m e q w = no w
    go true true true q w = eqb-true r.first.name tag.name q
    go true true false q w = no w
    go true false e q w = same_name r.first tag w

-- the search for a row: it begins at the first row of the name, and ends behind the last
module _ (profile : ℕ) (tag : Tag) where
  other_name : (k : ℕ) → ((get_or table k no_row).first.name ≡ tag.name → ⊥) → stands_at profile tag k ≡ false
  unfolding stands_at row_at row_in
  other_name k h = go (stands_for (row_at profile k) tag) refl
    where
      go : (t : Bool) → stands_for (row_at profile k) tag ≡ t → stands_for (row_at profile k) tag ≡ false
      go true q = absurd (h (stands_name (row_at profile k) tag q))
      go false q = q

  -- no row below k stands for the tag, and from k on no name is below the tag's
  pub record Searched (k : ℕ) : Type 0 where
    pub none : (j : ℕ) → j < k → stands_at profile tag j ≡ false
    pub reached : (j : ℕ) → k ≤ j → j < 112 → name_reached tag.name j ≡ true
    pub up_to : k ≤ 112

  pub searched_start : (k : ℕ) → Parted (name_reached tag.name) 112 k → Searched k
  unfolding name_reached
  searched_start k p =
      record {
        none = λ j h. let u : (get_or table j no_row).first.name < tag.name = leb-false tag.name (get_or table j no_row).first.name (p.below j h) in other_name j (λ e. omega arith);
        reached = p.from;
        up_to = p.within;
      }

  module _ (k : ℕ) (s : Searched k) where
    pub search_next : k < 112 → stands_at profile tag k ≡ false → Searched (k + 1)
    search_next l e = record { none = λ j h. go j h; reached = λ j h. s.reached j (omega arith); up_to = omega arith }
      where
        go : (j : ℕ) → j < k + 1 → stands_at profile tag j ≡ false
        go j h = span_below (λ (m : ℕ). stands_at profile tag m ≡ false) j k h (s.none j) e

    pub search_found : k < 112 → stands_at profile tag k ≡ true → k ≡ row_for profile tag
    search_found l e = sym (first_is (stands_at profile tag) k 112 0 (omega arith) (omega arith) (λ j u v. s.none j v) e)

    -- the name of row k is another, so it is above the tag's
    pub search_past : k < 112 → ((get_or table k no_row).first.name ≡ tag.name → ⊥) → 112 ≡ row_for profile tag
    unfolding name_reached
    search_past l e = sym (first_none (stands_at profile tag) 112 0 (λ j u v. go j v (leb (j + 1) k) refl))
      where
        go : (j : ℕ) → j < 112 → (t : Bool) → leb (j + 1) k ≡ t → stands_at profile tag j ≡ false
        go j v true q = s.none j (omega (arith, leb-true (j + 1) k q))
        go j v false q =
            let z = leb-false (j + 1) k q in
            let a : tag.name ≤ (get_or table k no_row).first.name = leb-true tag.name (get_or table k no_row).first.name (s.reached k (omega arith) l) in
            let b : (get_or table k no_row).first.name ≤ (get_or table j no_row).first.name = name_up k j (omega arith) v in
            other_name j (λ f. e (omega arith))

    pub search_end : 112 ≤ k → 112 ≡ row_for profile tag
    search_end l = sym (first_none (stands_at profile tag) 112 0 (λ j u v. s.none j (omega arith)))

    -- the same of row k as the code has it
    pub searched_next : k < 112 → (r : Row) → r ≡ row_at profile k → stands_for r tag ≡ false → Searched (k + 1)
    unfolding stands_at
    searched_next l r f w = search_next l (ap (λ (x : Row). stands_for x tag) (sym f) ∙ w)

    pub searched_found : k < 112 → (r : Row) → r ≡ row_at profile k → stands_for r tag ≡ true → Some r ≡ row_if profile (row_for profile tag)
    unfolding stands_at
    searched_found l r e w =
        let g : row_if profile k ≡ Some (row_at profile k) = simp (lt-ltb k 112 l) in
        ap Some e ∙ sym g ∙ ap (row_if profile) (search_found l (ap (λ (x : Row). stands_for x tag) (sym e) ∙ w))

    pub searched_past : k < 112 → (r : Row) → r ≡ row_at profile k → (r.first.name ≡ tag.name → ⊥) → None ≡ row_if profile (row_for profile tag)
    unfolding row_at row_in
    searched_past l r n e = ap (row_if profile) (search_past l (λ q. e (ap (λ (x : Row). x.first.name) n ∙ q)))

    pub searched_end : 112 ≤ k → None ≡ row_if profile (row_for profile tag)
    searched_end l = ap (row_if profile) (search_end l)
