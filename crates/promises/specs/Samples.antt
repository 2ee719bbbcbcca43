-- The bench samples of document 01: one table, each row a file, a call on it, and the answer.
use Rattle.std.specs.Prelude.{ℕ, ◌≡◌, List, [], ◌∷◌, ◌++◌, negsuc, take, replicate}
use Rattle.reading.specs.Check.{Answer, ok, refused, map_answer, answer}
use Rattle.abif_elements.specs.Element.{whole}
use Rattle.promises.specs.Format.{Format}
use Rattle.sff_fields.specs.declared.parts.Read.{Read}
use Rattle.sff_fields.specs.declared.parts.ReadPart.TheVariants.{Insert}
use Rattle.promises.specs.Abif.{lookup, element, judge, of, abif}
use Rattle.gtc_records.specs.Genotype.{letters}
use Rattle.promises.specs.Sff as Sff
use Rattle.promises.specs.Gtc as Gtc
use Rattle.promises.specs.Gtc.{gtc}
use Rattle.promises.specs.Sff.{sff}

-- the header of a file with one directory entry, at 128
unfoldable pub header : List ℕ
header =
    0x41 ∷ 0x42 ∷ 0x49 ∷ 0x46 ∷ 0x00 ∷ 0x65 ∷ 0x74 ∷ 0x64 ∷ 0x69 ∷ 0x72 ∷ 0x00 ∷ 0x00 ∷ 0x00 ∷ 0x01 ∷ 0x03 ∷ 0xff
    ∷ 0x00 ∷ 0x1c ∷ 0x00 ∷ 0x00 ∷ 0x00 ∷ 0x01 ∷ 0x00 ∷ 0x00 ∷ 0x00 ∷ 0x1c ∷ 0x00 ∷ 0x00 ∷ 0x00 ∷ 0x80 ∷ 0x00 ∷ 0x00
    ∷ 0x00 ∷ 0x00
    ∷ [] ++ replicate 94 0

-- ABCD 1: the shorts 1 and -2
unfoldable pub two_shorts : List ℕ
unfolding header
two_shorts =
    header
    ++ (0x41 ∷ 0x42 ∷ 0x43 ∷ 0x44 ∷ 0x00 ∷ 0x00 ∷ 0x00 ∷ 0x01 ∷ 0x00 ∷ 0x04 ∷ 0x00 ∷ 0x02
    ∷ 0x00 ∷ 0x00 ∷ 0x00 ∷ 0x02 ∷ 0x00 ∷ 0x00 ∷ 0x00 ∷ 0x04 ∷ 0x00 ∷ 0x01 ∷ 0xff ∷ 0xfe ∷ 0x00 ∷ 0x00 ∷ 0x00 ∷ 0x00 ∷ [])

-- ABCD 1: three shorts at 156
unfoldable pub three_shorts : List ℕ
unfolding header
three_shorts =
    header
    ++ (0x41 ∷ 0x42 ∷ 0x43 ∷ 0x44 ∷ 0x00 ∷ 0x00 ∷ 0x00 ∷ 0x01 ∷ 0x00 ∷ 0x04 ∷ 0x00 ∷ 0x02
    ∷ 0x00 ∷ 0x00 ∷ 0x00 ∷ 0x03 ∷ 0x00 ∷ 0x00 ∷ 0x00 ∷ 0x06 ∷ 0x00 ∷ 0x00 ∷ 0x00 ∷ 0x9c ∷ 0x00 ∷ 0x00 ∷ 0x00 ∷ 0x00
    ∷ 0x00 ∷ 0x01 ∷ 0x00 ∷ 0x02 ∷ 0x00 ∷ 0x03 ∷ [])

-- RUND 1: the date of day 1 of month 13 of 2003
unfoldable pub month_thirteen : List ℕ
unfolding header
month_thirteen =
    header
    ++ (0x52 ∷ 0x55 ∷ 0x4e ∷ 0x44 ∷ 0x00 ∷ 0x00 ∷ 0x00 ∷ 0x01 ∷ 0x00 ∷ 0x0a ∷ 0x00 ∷ 0x04
    ∷ 0x00 ∷ 0x00 ∷ 0x00 ∷ 0x01 ∷ 0x00 ∷ 0x00 ∷ 0x00 ∷ 0x04 ∷ 0x07 ∷ 0xd3 ∷ 0x0d ∷ 0x01 ∷ 0x00 ∷ 0x00 ∷ 0x00 ∷ 0x00 ∷ [])

-- an SFF header of 4 flows and 4 key letters, for so many reads
unfoldable pub sff_header : ℕ → List ℕ
sff_header n =
    0x2e ∷ 0x73 ∷ 0x66 ∷ 0x66 ∷ 0x00 ∷ 0x00 ∷ 0x00 ∷ 0x01 ∷ 0x00 ∷ 0x00 ∷ 0x00 ∷ 0x00 ∷ 0x00 ∷ 0x00 ∷ 0x00 ∷ 0x00
    ∷ 0x00 ∷ 0x00 ∷ 0x00 ∷ 0x00 ∷ 0x00 ∷ 0x00 ∷ 0x00 ∷ n ∷ 0x00 ∷ 0x28 ∷ 0x00 ∷ 0x04 ∷ 0x00 ∷ 0x04 ∷ 0x01 ∷ 0x54
    ∷ 0x41 ∷ 0x43 ∷ 0x47 ∷ 0x54 ∷ 0x43 ∷ 0x41 ∷ 0x47 ∷ 0x00 ∷ []

-- a read of name ABCDE and bases TAC, flow steps 1 1 1, left quality clip 2
unfoldable pub three_bases : List ℕ
three_bases =
    0x00 ∷ 0x18 ∷ 0x00 ∷ 0x05 ∷ 0x00 ∷ 0x00 ∷ 0x00 ∷ 0x03 ∷ 0x00 ∷ 0x02 ∷ 0x00 ∷ 0x00 ∷ 0x00 ∷ 0x00 ∷ 0x00 ∷ 0x00
    ∷ 0x41 ∷ 0x42 ∷ 0x43 ∷ 0x44 ∷ 0x45 ∷ 0x00 ∷ 0x00 ∷ 0x00 ∷ 0x00 ∷ 0x64 ∷ 0x00 ∷ 0x64 ∷ 0x00 ∷ 0x64 ∷ 0x00 ∷ 0x00
    ∷ 0x01 ∷ 0x01 ∷ 0x01 ∷ 0x54 ∷ 0x41 ∷ 0x43 ∷ 0x28 ∷ 0x28 ∷ 0x28 ∷ 0x00 ∷ 0x00 ∷ 0x00 ∷ 0x00 ∷ 0x00 ∷ 0x00 ∷ 0x00 ∷ []

-- what is answered of it, where it starts at 40
abbrev pub read_at40 : Read
read_at40 =
    record {
      start = 40;
      name_start = 56;
      name_length = 5;
      flows = 4;
      bases = 3;
      quality_left = 2;
      quality_right = 0;
      adapter_left = 0;
      adapter_right = 0;
      flows_start = 64;
      steps_start = 72;
      letters_start = 75;
      qualities_start = 78;
      first = record { 0 = 2 };
      last = record { 0 = 3 };
      insert_start = 76;
      insert_length = 2;
    }

-- a GTC file of no entries
unfoldable pub no_entries : List ℕ
no_entries = 0x67 ∷ 0x74 ∷ 0x63 ∷ 0x05 ∷ 0x00 ∷ 0x00 ∷ 0x00 ∷ 0x00 ∷ []

-- one of one entry: id 1, value 3
unfoldable pub three_snps : List ℕ
three_snps = 0x67 ∷ 0x74 ∷ 0x63 ∷ 0x05 ∷ 0x01 ∷ 0x00 ∷ 0x00 ∷ 0x00 ∷ 0x01 ∷ 0x00 ∷ 0x03 ∷ 0x00 ∷ 0x00 ∷ 0x00 ∷ []

-- one of three SNPs with the genotype codes 13, 45 and 46, the base calls AC, -- and GT, the scores 0.5 and the intensities 1, 2 and 3
unfoldable pub three_codes : List ℕ
three_codes =
    0x67 ∷ 0x74 ∷ 0x63 ∷ 0x05 ∷ 0x06 ∷ 0x00 ∷ 0x00 ∷ 0x00 ∷ 0x01 ∷ 0x00 ∷ 0x03 ∷ 0x00 ∷ 0x00 ∷ 0x00 ∷ 0xea ∷ 0x03
    ∷ 0x2c ∷ 0x00 ∷ 0x00 ∷ 0x00 ∷ 0xeb ∷ 0x03 ∷ 0x33 ∷ 0x00 ∷ 0x00 ∷ 0x00 ∷ 0xec ∷ 0x03 ∷ 0x3d ∷ 0x00 ∷ 0x00 ∷ 0x00
    ∷ 0xe8 ∷ 0x03 ∷ 0x4d ∷ 0x00 ∷ 0x00 ∷ 0x00 ∷ 0xe9 ∷ 0x03 ∷ 0x4d ∷ 0x00 ∷ 0x00 ∷ 0x00 ∷ 0x03 ∷ 0x00 ∷ 0x00 ∷ 0x00
    ∷ 0x0d ∷ 0x2d ∷ 0x2e ∷ 0x03 ∷ 0x00 ∷ 0x00 ∷ 0x00 ∷ 0x41 ∷ 0x43 ∷ 0x2d ∷ 0x2d ∷ 0x47 ∷ 0x54 ∷ 0x03 ∷ 0x00 ∷ 0x00
    ∷ 0x00 ∷ 0x00 ∷ 0x00 ∷ 0x00 ∷ 0x3f ∷ 0x00 ∷ 0x00 ∷ 0x00 ∷ 0x3f ∷ 0x00 ∷ 0x00 ∷ 0x00 ∷ 0x3f ∷ 0x03 ∷ 0x00 ∷ 0x00
    ∷ 0x00 ∷ 0x01 ∷ 0x00 ∷ 0x02 ∷ 0x00 ∷ 0x03 ∷ 0x00 ∷ []

pub record Sample : Type 1 where
  pub format : Format
  pub file : List ℕ
  pub call : format.Call
  -- what the paper tells of an answer, and what that is here
  pub Said : Type 0
  pub says : (format.call call).Value → Said
  pub answers : Answer Said

-- a sample that says the answer itself
abbrev pub row : (f : Format) → List ℕ → (c : f.Call) → Answer (f.call c).Value → Sample
row f s c r = record { format = f; file = s; call = c; Said = (f.call c).Value; says = λ v. v; answers = r }

-- one that says the letters of a SNP's genotype
abbrev pub genotype_row : List ℕ → ℕ → Answer (List ℕ) → Sample
genotype_row s i r = record { format = gtc; file = s; call = Gtc.snp i; Said = List ℕ; says = λ v. letters v.genotype; answers = r }

abbrev pub ABCD : ℕ
ABCD = 0x41424344

abbrev pub table : List Sample
table =
    -- W1
    row abif [] judge (refused 1 0)
    ∷ row sff [] Sff.judge (refused 1 0)
    ∷ row gtc [] Gtc.judge (refused 1 0)
    -- W2
    ∷ row abif two_shorts judge (ok 156)
    -- W3
    ∷ row abif (take 155 two_shorts) judge (refused 1 0)
    -- W4
    ∷ row abif two_shorts (of (lookup ABCD 1)) (ok (record { code = 4; count = 2; start = 148; size = 4 }))
    ∷ row abif two_shorts (of (element ABCD 1 2)) (ok (whole (negsuc 1)))
    ∷ row abif two_shorts (of (element ABCD 1 3)) (refused 12 0)
    -- W5
    ∷ row abif two_shorts (of (lookup ABCD 2)) (refused 7 0)
    -- W6
    ∷ row abif three_shorts judge (ok 162)
    ∷ row abif (take 161 three_shorts) judge (refused 1 1)
    -- W7
    ∷ row sff (sff_header 0) Sff.judge (ok 40)
    -- W8
    ∷ row sff (sff_header 1 ++ three_bases) Sff.judge (ok 88)
    ∷ row sff (sff_header 1 ++ three_bases) (Sff.read 1 Insert) (ok read_at40)
    -- W9
    ∷ row gtc no_entries Gtc.judge (ok (record { extent = 8; unjudged = 0 }))
    -- W10
    ∷ row gtc three_snps Gtc.judge (ok (record { extent = 14; unjudged = 0 }))
    -- W11: AABB, eight Bs, refused
    ∷ genotype_row three_codes 1 (ok (0x41 ∷ 0x41 ∷ 0x42 ∷ 0x42 ∷ []))
    ∷ genotype_row three_codes 2 (ok (0x42 ∷ 0x42 ∷ 0x42 ∷ 0x42 ∷ 0x42 ∷ 0x42 ∷ 0x42 ∷ 0x42 ∷ []))
    ∷ genotype_row three_codes 3 (refused 11 0)
    -- W12
    ∷ row abif month_thirteen (of (element 0x52554e44 1 1)) (refused 11 0)
    ∷ []

-- every row holds
abbrev pub AllHold : List Sample → Type 0
AllHold [] = Unit {0}
AllHold (r ∷ rs) = (map_answer r.says (answer (r.format.call r.call).checks r.file) ≡ r.answers) × AllHold rs
