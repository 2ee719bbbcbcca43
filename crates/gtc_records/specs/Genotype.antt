-- GTC: what a genotype code means (Table 4).
use Rattle.std.specs.Prelude.{ℕ, zero, suc, ◌+◌, ◌-◌, ◌*◌, ◌/◌, List, [], ◌∷◌, ◌++◌, replicate, leb, eqb}
use Rattle.reading.specs.Choice.{pick}
use Rattle.reading.specs.Check.{Check, done, provided, ◌>>◌}
use Rattle.gtc_records.specs.declared.genotype.Genotype.{Genotype}
use Rattle.gtc_records.specs.declared.genotype.Genotype.TheVariants.{NoCall, Null, Alleles}

-- the code of p letters of which b are B, for p from 3 to 8
abbrev pub code_of : ℕ → ℕ → ℕ
code_of p b = p * (p + 1) / 2 + 1 + b

-- a code of p letters
abbrev pub of_letters : ℕ → ℕ → Genotype
of_letters code p = Alleles p (code - code_of p 0)

-- a code of p letters, or of up to n letters more
unfoldable pub letters_from : ℕ → ℕ → ℕ → Genotype
letters_from code p zero = of_letters code p
letters_from code p (suc n) = pick (leb code (code_of p p)) (of_letters code p) (letters_from code (p + 1) n)

-- 0 NC, 1 to 3 AA AB BB, 4 NULL, 5 A, 6 B, up to 45 three letters or up to five more
unfoldable pub meaning : ℕ → Genotype
unfolding letters_from
meaning code =
    pick (eqb code 0) NoCall
    (pick (leb code 3) (Alleles 2 (code - 1))
    (pick (eqb code 4) Null
    (pick (leb code 6) (Alleles 1 (code - 5))
    (letters_from code 3 5))))

-- the number of letters, and of those that are B; none where there is no call
abbrev pub ploidy : Genotype → ℕ
ploidy NoCall = 0
ploidy Null = 0
ploidy (Alleles p b) = p

abbrev pub b_alleles : Genotype → ℕ
b_alleles NoCall = 0
b_alleles Null = 0
b_alleles (Alleles p b) = b

-- the letters of a genotype, A before B: AABB; NC and NULL stand for themselves
abbrev pub letters : Genotype → List ℕ
letters NoCall = 0x4e ∷ 0x43 ∷ []
letters Null = 0x4e ∷ 0x55 ∷ 0x4c ∷ 0x4c ∷ []
letters (Alleles p b) = replicate (p - b) 0x41 ++ replicate b 0x42

abbrev pub last_code : ℕ
last_code = 45

-- over 45 is 11
unfoldable pub decoding : ℕ → Check Genotype
decoding code = do
  provided (leb code last_code) 11
  done (meaning code)
