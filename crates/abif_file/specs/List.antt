-- ABIF: the raw entries of the directory, into a list of records that the caller lends.
use Rattle.std.specs.Prelude.{ℕ, zero, suc, ◌+◌, List, [], ◌∷◌, leb}
use Rattle.reading.specs.Check.{Check, done, provided, ◌>>=◌, ◌>>◌}
use Rattle.abif_file.specs.declared.entry.RawEntry.{RawEntry}
use Rattle.abif.specs.Directory.{directory}
use Rattle.abif_file.specs.Entry.{raw_entry}

-- the n entries from place p on, in file order
unfoldable pub raw_entries : List ℕ → ℕ → ℕ → List RawEntry
raw_entries bytes p zero = []
raw_entries bytes p (suc n) = raw_entry bytes p ∷ raw_entries bytes (p + 28) n

-- the header and directory checks, then a list that is shorter than the directory 13; all entries are copied
unfoldable pub listing : ℕ → Check (List RawEntry)
listing room = do
  d ← directory
  provided (leb d.count room) 13
  done (raw_entries d.up_to d.place d.count)
