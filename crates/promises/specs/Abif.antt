-- The reading calls of ABIF, and what the calls of an opened file answer.
use Rattle.std.specs.Prelude.{ℕ, suc, ◌≡◌, List, ◌∷◌, ℤ, length, drop}
use Rattle.reading.specs.Check.{ok, refused, answer}
use Rattle.abif_file.specs.declared.entry.RawEntry.{RawEntry}
use Rattle.abif.specs.Directory.{opening}
use Rattle.abif.specs.Judge.{judging, extent_of}
use Rattle.abif.specs.Lookup.{looking_up}
use Rattle.reading.specs.Item.{data_span}
use Rattle.abif_elements.specs.Element.{element_reading}
use Rattle.abif_elements.specs.Numbers.{numbers_reading}
use Rattle.abif_elements.specs.Text.{text_reading}
use Rattle.abif_file.specs.Entry.{entry_reading}
use Rattle.abif_file.specs.List.{listing}
use Rattle.abif_file.specs.Opened.{of_opened}
use Rattle.abif_tags.specs.Report.{finding_numbers, checking_tags}
use Rattle.promises.specs.Format.{ReadingCall, plain, handing, filling, Format}

-- The calls that an opened file has too. A tag is its name and its number, each by its 32 bits.
pub data FileCall : Type 0 where
  -- abif::lookup::lookup, abif::lookup::data_part, jt_abif_lookup
  -- abif_file::file::lookup, abif_file::file::data_part, jt_abif_lookup_opened
  lookup : (name number : ℕ) → FileCall
  -- abif_elements::element::read_element, jt_abif_element
  -- abif_file::file::read_element, jt_abif_element_opened
  element : (name number index : ℕ) → FileCall
  -- abif_elements::text::read_text, abif_elements::text::text_part, jt_abif_text
  -- abif_file::file::read_text, abif_file::file::text_part, jt_abif_text_opened
  text : (name number : ℕ) → FileCall
  -- abif_file::list::list, jt_abif_list, abif_file::file::list, jt_abif_list_opened
  -- the lent list of records goes in
  list : List RawEntry → FileCall

pub data Call : Type 0 where
  -- abif::judge::judge, jt_abif_judge
  judge : Call
  -- abif::directory::open, abif_file::file::open, jt_abif_open
  open_file : Call
  -- abif_file::entry::entry
  entry : (index : ℕ) → Call
  -- abif_elements::numbers::whole_numbers, jt_abif_whole_numbers
  -- the lent output goes in
  whole_numbers : (name number first : ℕ) → List ℤ → Call
  -- abif_tags::check::check_tags, jt_abif_check_tags
  -- the lent output goes in
  check_tags : (profile : ℕ) → List ℤ → Call
  -- one of those above
  of : FileCall → Call
  -- the same of an opened file, with the place and the count that it carries
  opened : (place count : ℕ) → FileCall → Call

-- lookup hands back the data, and the text call the text
abbrev pub file_call : FileCall → ReadingCall
file_call (lookup name number) = handing (looking_up name number) data_span
file_call (element name number index) = plain (element_reading name number index)
file_call (text name number) = handing (text_reading name number) (λ q. q)
file_call (list out) = filling (listing (length out)) (λ entries. entries) out

-- the same call of an opened file
abbrev pub later : (place count : ℕ) → ReadingCall → ReadingCall
later place count c =
    record {
      Value = c.Value;
      checks = of_opened place count c.checks;
      span = c.span;
      Record = c.Record;
      lent = c.lent;
      writes = c.writes;
    }

abbrev pub call : Call → ReadingCall
call judge = plain judging
call open_file = plain opening
call (entry index) = plain (entry_reading index)
call (whole_numbers name number first out) = filling (numbers_reading name number first (length out)) (λ numbers. numbers) out
call (check_tags profile out) = filling (checking_tags profile (length out)) finding_numbers out
call (of c) = file_call c
call (opened place count c) = later place count (file_call c)

abbrev pub abif : Format
abif = record { Call = Call; call = call; judging = judge; extent = extent_of }

-- Record j of a list, from 0, is entry j + 1, and there is a record for each entry.
pub record ListOfEntries (s : List ℕ) (es : List RawEntry) : Type 0 where
  pub each : (j : ℕ) (e : RawEntry) (l : List RawEntry) → drop j es ≡ e ∷ l → answer (entry_reading (suc j)) s ≡ ok e
  pub all : (p n : ℕ) → answer opening s ≡ ok (p, n) → length es ≡ n

-- so it is of every list that listing answers
abbrev pub ListsAreEntries : Type 0
ListsAreEntries = (s : List ℕ) (room : ℕ) (es : List RawEntry) → answer (listing room) s ≡ ok es → ListOfEntries s es

-- A file that opens with place p and count n: with just these a call answers as it does without, and with any other 4 comes before all else.
pub record OpenedWith (s : List ℕ) (p n : ℕ) : Type 0 where
  pub same : (c : FileCall) → answer (call (opened p n c)).checks s ≡ answer (call (of c)).checks s
  pub other : (q m : ℕ) → ((q ≡ p) × (m ≡ n) → ⊥) → (c : FileCall) → answer (call (opened q m c)).checks s ≡ refused 4 0

-- so it is of every file that opens, and one that does not refuses every call as it refuses to open
abbrev pub OpenedAsFile : Type 0
OpenedAsFile =
    (s : List ℕ)
    → ((p n : ℕ) → answer opening s ≡ ok (p, n) → OpenedWith s p n)
    × ((k e : ℕ) → answer opening s ≡ refused k e → (p n : ℕ) (c : FileCall) → answer (call (opened p n c)).checks s ≡ refused k e)
