-- The check of a file's tags, from the answers of its parts.
use Prim.Native.Nat.{ℕ, suc, ◌+◌, ◌*◌, ◌≤◌, ◌<◌}
use mathlib.Core.Path.{◌≡◌, sym, ◌∙◌, ap}
use mathlib.Core.List.{List, ◌∷◌, ◌++◌, map}
use mathlib.Core.Bool.{true, false}
use native.Mathlib.Omega.{arith}
use lib.IntN.{ℤ, pos}
use lib.ListN.{length, get_or, take, drop, length-map}
use lib.Seq.{drop-cons, take_at}
use borrow.Author.Tests.{le-leb, lt-leb}
use Rattle.reading.specs.Choice.{is_number_of}
use Rattle.reading.specs.Check.{Answer, ok, refused, map_answer, answer, at, holds, ◌>>=◌}
use Rattle.reading.specs.Lent.{filled}
use Rattle.reading.proofs.Steps.{answer_bind, answer_must, answer_done, answer_at, answer_at_entry}
use Rattle.reading.proofs.Passed.{bind_refused, bind_answered}
use Rattle.abif.specs.Directory.{Directory, directory}
use Rattle.abif.specs.Judge.{judging}
use Rattle.abif_tags.specs.Order.{in_tag_order}
use Rattle.abif_tags.specs.Report.{Finding, finding_numbers, side_by_side, report, reporting, checking_whole, checking_tags}
use Rattle.abif_tags.specs.Table.{table, row_in}
use Rattle.abif_tags.specs.declared.order.Tagged.{Tagged}
use Rattle.abif_tags.specs.declared.finding.Finding as code
use Rattle.abif_tags.specs.Private.{tagged, finding_of}
use Rattle.abif_tags.proofs.order.Laws.{length_order, entries_told}
use Rattle.abif_tags.proofs.finding.Laws.{numbers_length}

-- the next of n numbers that are copied
pub copied_next : (found : List ℤ) (i : ℕ) → i < length found → (m : ℕ) → take (suc m) (drop i found) ≡ get_or found i (pos 0) ∷ take m (drop (i + 1) found)
copied_next found i h m =
    let e : suc i ≡ i + 1 = omega arith in
    ap (take (suc m)) (drop-cons found i (pos 0) h) ∙ ap (λ (k : ℕ). get_or found i (pos 0) ∷ take m (drop k found)) e

-- the report on n entries that are in order
module _ (profile : ℕ) (bytes : List ℕ) (place n : ℕ) (order : List Tagged) (e : order ≡ map (tagged bytes place) (in_tag_order bytes place n)) where
  abbrev Of : Directory
  Of = record { place = place; count = n; up_to = bytes }

  abbrev Findings : List Finding
  Findings = side_by_side profile bytes place (map (row_in profile) table) (map (λ t. t.entry) order)

  report_is : Findings ≡ report profile Of
  unfolding report
  report_is = ap (side_by_side profile bytes place (map (row_in profile) table)) (entries_told bytes place (in_tag_order bytes place n) order e)

  pub front_length : length order ≡ n
  front_length = rw e (simp length-map (length_order bytes place n))

  module _ (m : ℕ) (c : m ≡ length Findings) (room : ℕ) where
    count_is : m ≡ length (report profile Of)
    count_is = c ∙ ap length report_is

    pub no_room : room < 3 * m → (l : List ℕ) → refused 13 0 ≡ answer (reporting profile room Of) l
    unfolding reporting holds
    no_room h l = simp (answer_bind, answer_must, lt-leb (3 * length (report profile Of)) room (omega (arith, count_is)))

    module _ (h : 3 * m ≤ room) where
      reported : (l : List ℕ) → ok (report profile Of) ≡ answer (reporting profile room Of) l
      unfolding reporting holds
      reported l = simp (answer_bind, answer_must, answer_done, le-leb (3 * length (report profile Of)) room (omega (arith, count_is)))

      pub counted : (l : List ℕ) → ok m ≡ map_answer length (answer (reporting profile room Of) l)
      counted l = ap ok count_is ∙ ap (map_answer length) (reported l)

      -- what was found is copied to the output's front
      pub copied : (found o out front : List ℤ) → found ≡ finding_numbers Findings ++ o → front ≡ take (3 * m) found → (l : List ℕ) → front ++ drop (3 * m) out ≡ filled (map_answer finding_numbers (answer (reporting profile room Of) l)) out
      copied found o out front f a l =
          let v = finding_numbers (report profile Of) in
          let k : length v ≡ 3 * m = numbers_length (report profile Of) ∙ ap (λ (x : ℕ). 3 * x) (sym count_is) in
          let t : front ≡ v = a ∙ ap (take (3 * m)) (f ∙ ap (λ (x : List Finding). finding_numbers x ++ o) report_is) ∙ take_at v o (3 * m) k in
          ap (λ (x : List ℤ). x ++ drop (3 * m) out) t ∙ ap (λ (x : ℕ). v ++ drop x out) (sym k) ∙ ap (λ (x : Answer (List Finding)). filled (map_answer finding_numbers x) out) (reported l)

      -- the numbers of what was found are put at the output's front
      pub all_put : (findings : List code.Finding) → map finding_of findings ≡ Findings → (out : List ℤ) (l : List ℕ) → finding_numbers (map finding_of findings) ++ drop (3 * length findings) out ≡ filled (map_answer finding_numbers (answer (reporting profile room Of) l)) out
      all_put findings f out l =
          let k : length (finding_numbers (map finding_of findings)) ≡ 3 * length findings = numbers_length (map finding_of findings) ∙ ap (λ (x : ℕ). 3 * x) (length-map findings finding_of) in
          ap (λ (x : ℕ). finding_numbers (map finding_of findings) ++ drop x out) (sym k) ∙ ap (λ (x : List Finding). filled (ok (finding_numbers x)) out) (f ∙ report_is) ∙ ap (λ (x : Answer (List Finding)). filled (map_answer finding_numbers x) out) (reported l)

-- the profile
pub one_of_eight : (p : ℕ) → 1 ≤ p → p ≤ 8 → is_number_of p 8 ≡ true
one_of_eight p h k = simp (le-leb 1 p h, le-leb p 8 k)

pub none_of_eight : (p : ℕ) → 8 < p → is_number_of p 8 ≡ false
none_of_eight p h = simp (le-leb 1 p (omega arith), lt-leb p 8 h)

module _ (profile room : ℕ) (s : List ℕ) where
  pub unknown_profile : is_number_of profile 8 ≡ false → refused 10 0 ≡ answer (checking_whole profile room) s
  unfolding checking_whole holds
  unknown_profile h = simp (answer_bind, answer_must, h)

  pub one_profile : is_number_of profile 8 ≡ true → answer (directory >>= reporting profile room) s ≡ answer (checking_whole profile room) s
  unfolding checking_whole holds
  one_profile h = simp (answer_bind, answer_must, h)

  -- judging first
  pub judged_refused : (n e : ℕ) → answer judging s ≡ refused n e → refused n 0 ≡ answer (checking_tags profile room) s
  unfolding checking_tags
  judged_refused n e h = bind_refused (at 0 judging) _ s n 0 (answer_at 0 judging s ∙ ap (answer_at_entry 0) h)

  module _ (x : ℕ) (h : answer judging s ≡ ok x) where
    pub judged_whole : answer (checking_whole profile room) s ≡ answer (checking_tags profile room) s
    unfolding checking_tags
    judged_whole = bind_answered (at 0 judging) (λ _. checking_whole profile room) s x (answer_at 0 judging s ∙ ap (answer_at_entry 0) h)

    -- then the profile
    pub other_profile : is_number_of profile 8 ≡ false → refused 10 0 ≡ answer (checking_tags profile room) s
    other_profile w = unknown_profile w ∙ judged_whole

    pub known_profile : (p : ℕ) → p ≡ profile → 1 ≤ p → p ≤ 8 → answer (directory >>= reporting p room) s ≡ answer (checking_tags profile room) s
    known_profile p e l m =
        let w : is_number_of profile 8 ≡ true = one_of_eight profile (omega arith) (omega arith) in
        ap (λ (n : ℕ). answer (directory >>= reporting n room) s) e ∙ one_profile w ∙ judged_whole
