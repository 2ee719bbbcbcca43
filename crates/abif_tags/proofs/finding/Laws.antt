-- The numbers of findings.
use Prim.Native.Nat.{ℕ, suc, ◌+◌, ◌*◌, ◌≤◌, ◌<◌}
use mathlib.Core.Path.{◌≡◌, refl, ◌∙◌, ap}
use mathlib.Core.List.{List, [], ◌∷◌, map}
use native.Mathlib.Omega.{arith}
use lib.IntN.{ℤ, pos}
use lib.ListN.{length, get_or, drop, drop_of_length-le}
use lib.Seq.{sets}
use Rattle.std.specs.Prelude.{Some}
use Rattle.std.proofs.lemmas.List.{drop_more}
use Rattle.reading.proofs.Fill.{Filling, fill_record}
use Rattle.abif_tags.specs.declared.finding.Finding as code
use Rattle.abif_tags.specs.declared.finding.Kind.TheVariants.{Missing}
use Rattle.abif_tags.specs.Report.{Finding, finding_numbers}
use Rattle.abif_tags.specs.Private.{finding_of, told}

-- three numbers for each finding
pub numbers_length : (a : List Finding) → length (finding_numbers a) ≡ 3 * length a
numbers_length [] = refl
numbers_length (f ∷ a) = ap (λ (n : ℕ). suc (suc (suc n))) (numbers_length a) ∙ omega arith

module _ (findings : List code.Finding) where
  abbrev at : ℕ → code.Finding
  at m = get_or findings m (record { tag = record { name = 0; number = pos 0 }; kind = Missing })

  -- the numbers of the findings from place m on
  abbrev pub numbers_from : ℕ → List ℤ
  numbers_from m = finding_numbers (map finding_of (drop m findings))

  module _ (m : ℕ) where
    -- the next finding's numbers are put
    pub numbers_next : (o out whole : List ℤ) → Filling (λ _. numbers_from m) (3 * length findings) (3 * m) o out whole → m < length findings → Filling (λ _. numbers_from (m + 1)) (3 * length findings) (3 * (m + 1)) o (sets out (3 * m) (finding_numbers (told (Some (at m))))) whole
    numbers_next o out whole f h =
        let k : 3 * (m + 1) ≡ 3 * m + 3 = omega arith in
        rw k (fill_record (λ _. numbers_from m) (3 * length findings) (3 * m) o out whole f (finding_numbers (told (Some (at m)))) 3 refl (omega arith) (λ _. numbers_from (m + 1)) (λ _. ap (λ (l : List code.Finding). finding_numbers (map finding_of l)) (drop_more findings m _ h)))

    -- none is left
    pub numbers_none : length findings ≤ m → numbers_from m ≡ []
    numbers_none h = ap (λ (l : List code.Finding). finding_numbers (map finding_of l)) (drop_of_length-le findings {i = m} h)
