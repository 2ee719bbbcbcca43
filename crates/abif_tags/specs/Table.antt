-- ABIF: the tags that each instrument and software writes: Tables 1 to 8 of document 000, as one table.
use Rattle.std.specs.Prelude.{ℕ, ◌-◌, List, [], ◌∷◌, Bool, true, false, not, leb, eqb, pos, get_or}
use Rattle.std.specs.Int.Signed.{le_z}
use Rattle.reading.specs.Choice.{pick, among}
use Rattle.reading.specs.Entries.{first_with}
use Rattle.abif.specs.declared.tag.Tag.{Tag}
use Rattle.abif.specs.Tag.{tag_below}
use Rattle.abif.specs.Entry.{type_of}
use Rattle.abif_elements.specs.Element.{is_listed}
use Rattle.abif_tags.specs.declared.table.Published.{Published}
use Rattle.abif_tags.specs.declared.table.Published.TheVariants.{Of, Array, Char4, User}
use Rattle.abif_tags.specs.declared.table.Presence.{Presence}
use Rattle.abif_tags.specs.declared.table.Presence.TheVariants.{Absent, Required, Optional}
use Rattle.abif_tags.specs.declared.table.Row.{Row}

-- A profile is document 02's term: one of Tables 1 to 8, counted from one.
abbrev pub profile_count : ℕ
profile_count = 8

-- a row of the table: its first tag, whether it is numbered 1-N, the published type, and for each profile whether it is there
pub record TableRow : Type 0 where
  pub first : Tag
  pub many : Bool
  pub published : Published
  pub presences : List Presence

-- the columns of the profiles: not there, required, optional
abbrev N : Presence
N = Absent

abbrev R : Presence
R = Required

abbrev O : Presence
O = Optional

-- a row of one number
abbrev row : ℕ → ℕ → Published → Presence → Presence → Presence → Presence → Presence → Presence → Presence → Presence → TableRow
row name number published a b c d e f g h =
    record { first = record { name = name; number = pos number }; many = false; published = published; presences = a ∷ b ∷ c ∷ d ∷ e ∷ f ∷ g ∷ h ∷ [] }

-- a row numbered 1-N
abbrev many1 : ℕ → Published → Presence → Presence → Presence → Presence → Presence → Presence → Presence → Presence → TableRow
many1 name published a b c d e f g h =
    record { first = record { name = name; number = pos 1 }; many = true; published = published; presences = a ∷ b ∷ c ∷ d ∷ e ∷ f ∷ g ∷ h ∷ [] }

abbrev byte : Published
byte = Of 1

abbrev char : Published
char = Of 2

abbrev short : Published
short = Of 4

abbrev long : Published
long = Of 5

abbrev float : Published
float = Of 7

abbrev date : Published
date = Of 10

abbrev time : Published
time = Of 11

abbrev p_string : Published
p_string = Of 18

abbrev c_string : Published
c_string = Of 19

abbrev char_array : Published
char_array = Array 2

abbrev short_array : Published
short_array = Array 4

abbrev long_array : Published
long_array = Array 5

abbrev char4 : Published
char4 = Char4

abbrev user : Published
user = User

-- The table, in ascending order of first tags: the name, the number or 1-N, the published type, and the profiles from 1 to 8.
unfoldable pub table : List TableRow
table =
    row 0x414e4d45 1 c_string N R N N N R N R  -- ANME
    ∷ row 0x4150464e 2 p_string R N R N R N R N  -- APFN
    ∷ row 0x41505856 1 c_string R N R N R N R N  -- APXV
    ∷ row 0x4150724e 1 c_string R N R N R N R N  -- APrN
    ∷ row 0x41507256 1 c_string R N R N R N R N  -- APrV
    ∷ row 0x41507258 1 char_array R N R N R N R N  -- APrX
    ∷ row 0x42756654 1 short_array N N N N R R R R  -- BufT
    ∷ row 0x434d4e54 1 p_string O N O N O N O N  -- CMNT
    ∷ many1 0x434d4e54 p_string N O N O N O N O  -- CMNT
    ∷ row 0x43544944 1 c_string R R R R R R R R  -- CTID
    ∷ row 0x43544e4d 1 c_string R R R R R R R R  -- CTNM
    ∷ row 0x43544f77 1 c_string N N R R N N R R  -- CTOw
    ∷ row 0x4354544c 1 p_string R R R R R R R R  -- CTTL
    ∷ row 0x43704550 1 byte R R R R R R R R  -- CpEP
    ∷ row 0x44415441 1 short_array R R R R R R R R  -- DATA
    ∷ row 0x44415441 2 short_array R R R R R R R R  -- DATA
    ∷ row 0x44415441 3 short_array R R R R R R R R  -- DATA
    ∷ row 0x44415441 4 short_array R R R R R R R R  -- DATA
    ∷ row 0x44415441 5 short_array R R R R R R R R  -- DATA
    ∷ row 0x44415441 6 short_array R R R R R R R R  -- DATA
    ∷ row 0x44415441 7 short_array R R R R R R R R  -- DATA
    ∷ row 0x44415441 8 short_array R R R R R R R R  -- DATA
    ∷ row 0x44415441 105 short_array O O O O O O O O  -- DATA
    ∷ row 0x44434854 1 short N N N R N N R R  -- DCHT
    ∷ row 0x4453616d 1 short R R R R R R R R  -- DSam
    ∷ row 0x4479534e 1 p_string R R R R R R R R  -- DySN
    ∷ row 0x44796523 1 short R R R R R R R R  -- Dye#
    ∷ row 0x44796542 1 char N R N R N R N R  -- DyeB
    ∷ row 0x44796542 2 char N R N R N R N R  -- DyeB
    ∷ row 0x44796542 3 char N R N R N R N R  -- DyeB
    ∷ row 0x44796542 4 char N R N R N R N R  -- DyeB
    ∷ row 0x44796542 5 char N O N O N O N O  -- DyeB
    ∷ row 0x4479654e 1 p_string R R R R R R R R  -- DyeN
    ∷ row 0x4479654e 2 p_string R R R R R R R R  -- DyeN
    ∷ row 0x4479654e 3 p_string R R R R R R R R  -- DyeN
    ∷ row 0x4479654e 4 p_string R R R R R R R R  -- DyeN
    ∷ row 0x4479654e 5 p_string N O N O O R N O  -- DyeN
    ∷ row 0x44796557 1 short R R R R R R R R  -- DyeW
    ∷ row 0x44796557 2 short R R R R R R R R  -- DyeW
    ∷ row 0x44796557 3 short R R R R R R R R  -- DyeW
    ∷ row 0x44796557 4 short R R R R R R R R  -- DyeW
    ∷ row 0x44796557 5 short N O N O O O N O  -- DyeW
    ∷ row 0x45505674 1 long R R R R R R R R  -- EPVt
    ∷ row 0x45564e54 1 p_string R R R R R R R R  -- EVNT
    ∷ row 0x45564e54 2 p_string R R R R R R R R  -- EVNT
    ∷ row 0x45564e54 3 p_string R R R R R R R R  -- EVNT
    ∷ row 0x45564e54 4 p_string R R R R R R R R  -- EVNT
    ∷ row 0x46574f5f 1 char_array R N R N R N R N  -- FWO_
    ∷ row 0x47547970 1 p_string R R R R R R R R  -- GTyp
    ∷ row 0x48434647 1 c_string N N R R N N R R  -- HCFG
    ∷ row 0x48434647 2 c_string N N R R N N R R  -- HCFG
    ∷ row 0x48434647 3 c_string N N R R N N R R  -- HCFG
    ∷ row 0x48434647 4 c_string N N R R N N R R  -- HCFG
    ∷ row 0x496e5363 1 long R R R R R R R R  -- InSc
    ∷ row 0x496e5674 1 long R R R R R R R R  -- InVt
    ∷ row 0x4c414e45 1 short R R R R R R R R  -- LANE
    ∷ row 0x4c494d53 1 p_string R R R R R R R R  -- LIMS
    ∷ row 0x4c4e5444 1 short R R R R R R R R  -- LNTD
    ∷ row 0x4c737250 1 long R R R R R R R R  -- LsrP
    ∷ row 0x4d43484e 1 p_string R R R R R R R R  -- MCHN
    ∷ row 0x4d4f4446 1 p_string R R R R R R R R  -- MODF
    ∷ row 0x4d4f444c 1 char4 R R R R R R R R  -- MODL
    ∷ row 0x4e415647 1 short R R R R R R R R  -- NAVG
    ∷ row 0x4e4c4e45 1 short R R R R R R R R  -- NLNE
    ∷ row 0x4f665363 1 long_array O O O O O O O O  -- OfSc
    ∷ many1 0x4f666653 user N N N O N O N O  -- OffS
    ∷ many1 0x4f767256 long_array O O O O O O O O  -- OvrV
    ∷ many1 0x4f76726c long_array O O O O O O O O  -- Ovrl
    ∷ row 0x50414e4c 1 c_string N R N R N R N R  -- PANL
    ∷ row 0x50444d46 1 p_string R N R N R N R N  -- PDMF
    ∷ row 0x50524a54 1 c_string O N O N O N O N  -- PRJT
    ∷ row 0x50524f4a 4 c_string O N O N O N O N  -- PROJ
    ∷ row 0x50535a45 1 long N N N R N N R R  -- PSZE
    ∷ row 0x50545950 1 c_string N N N R N N R R  -- PTYP
    ∷ row 0x50584c42 1 long R R R R R R R R  -- PXLB
    ∷ row 0x5247436d 1 c_string O O O O O O O O  -- RGCm
    ∷ row 0x52474e6d 1 c_string R R R R R R R R  -- RGNm
    ∷ row 0x52474f77 1 c_string N N O O N N O O  -- RGOw
    ∷ row 0x524d5856 1 c_string R R R R R R R R  -- RMXV
    ∷ row 0x524d644e 1 c_string R R R R R R R R  -- RMdN
    ∷ row 0x524d6456 1 c_string R R R R R R R R  -- RMdV
    ∷ row 0x524d6458 1 char_array R R R R R R R R  -- RMdX
    ∷ row 0x5250724e 1 c_string R R R R R R R R  -- RPrN
    ∷ row 0x52507256 1 c_string R R R R R R R R  -- RPrV
    ∷ row 0x52554e44 1 date R R R R R R R R  -- RUND
    ∷ row 0x52554e44 2 date R R R R R R R R  -- RUND
    ∷ row 0x52554e44 3 date R R R R R R R R  -- RUND
    ∷ row 0x52554e44 4 date R R R R R R R R  -- RUND
    ∷ row 0x52554e54 1 time R R R R R R R R  -- RUNT
    ∷ row 0x52554e54 2 time R R R R R R R R  -- RUNT
    ∷ row 0x52554e54 3 time R R R R R R R R  -- RUNT
    ∷ row 0x52554e54 4 time R R R R R R R R  -- RUNT
    ∷ row 0x52617465 1 user R R R R R R R R  -- Rate
    ∷ row 0x52756e4e 1 c_string R R R R R R R R  -- RunN
    ∷ row 0x5343414e 1 long R R R R R R R R  -- SCAN
    ∷ row 0x534d4544 1 p_string R R R R R R R R  -- SMED
    ∷ row 0x534d4c74 1 p_string R R R R R R R R  -- SMLt
    ∷ row 0x534d504c 1 p_string R N R N R N R N  -- SMPL
    ∷ row 0x53504543 1 c_string O N O N O N O N  -- SPEC
    ∷ row 0x53545950 1 c_string N R N N N R N R  -- STYP
    ∷ row 0x53564552 1 p_string R R R R R R R R  -- SVER
    ∷ row 0x53564552 3 p_string R R R R R R R R  -- SVER
    ∷ row 0x53564552 4 p_string N R N R N R N R  -- SVER
    ∷ row 0x53617464 1 long_array O O O O O O O O  -- Satd
    ∷ row 0x5363616c 1 float R R R R R R R R  -- Scal
    ∷ row 0x5363616e 1 short R R R R R R R R  -- Scan
    ∷ row 0x536e7053 1 p_string N O N O N O N O  -- SnpS
    ∷ row 0x53704e6d 1 p_string N R N R N R N R  -- SpNm
    ∷ row 0x53746446 1 p_string N R N N N R N R  -- StdF
    ∷ row 0x54554245 1 p_string R R R R R R R R  -- TUBE
    ∷ row 0x546d7072 1 long R R R R R R R R  -- Tmpr
    ∷ row 0x55736572 1 p_string O O O O O O O O  -- User
    ∷ []

abbrev pub row_count : ℕ
row_count = 112

-- a row that no profile has
abbrev pub no_row : TableRow
no_row = row 0 0 (Of 0) N N N N N N N N

-- row k of the table, counted from 0, as it stands in a profile
unfoldable pub row_in : ℕ → TableRow → Row
row_in profile r =
    record { first = r.first; many = r.many; published = r.published; presence = get_or r.presences (profile - 1) Absent }

unfoldable pub row_at : ℕ → ℕ → Row
row_at profile k = row_in profile (get_or table k no_row)

-- the profile has the row
abbrev pub is_there : Presence → Bool
is_there Absent = false
is_there Required = true
is_there Optional = true

-- and requires its first tag: of a row numbered 1-N that is number 1
abbrev pub is_required : Presence → Bool
is_required Absent = false
is_required Required = true
is_required Optional = false

-- neither of two tags stands below the other: they are one
abbrev pub same_tag : Tag → Tag → Bool
same_tag a b = pick (tag_below a b) false (not (tag_below b a))

-- a row stands for its tag; one numbered 1-N for every number from 1
unfoldable pub stands_for : Row → Tag → Bool
stands_for r tag =
    pick (is_there r.presence)
    (pick r.many
    (pick (eqb r.first.name tag.name) (le_z (pos 1) tag.number) false)
    (same_tag r.first tag))
    false

-- the row of a profile that stands for a tag, or the number past the last one
unfoldable pub stands_at : ℕ → Tag → ℕ → Bool
stands_at profile tag k = stands_for (row_at profile k) tag

abbrev pub row_for : ℕ → Tag → ℕ
row_for profile tag = first_with (stands_at profile tag) row_count 0

-- the types of text: pString and cString
abbrev pub is_text : ℕ → Bool
is_text code = among code (18 ∷ 19 ∷ [])

-- An item of this type and count is of the published type. Of a type that is neither text nor an array nor user there is 1, and 4 of char[4]; user admits
-- every user code.
unfoldable pub agrees : Published → ℕ → ℕ → Bool
agrees (Of code) type count = pick (eqb type code) (pick (is_text code) true (eqb count 1)) false
agrees (Array code) type count = eqb type code
agrees Char4 type count = pick (eqb type 2) (eqb count 4) false
agrees User type count = pick (leb 1024 type) (leb type 32767) false

-- a type that document 01 lists, or user
abbrev pub is_known : Published → Bool
is_known (Of code) = is_listed (type_of code)
is_known (Array code) = is_listed (type_of code)
is_known Char4 = true
is_known User = true
