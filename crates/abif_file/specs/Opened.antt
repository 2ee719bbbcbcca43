-- ABIF: the calls of an opened file, document 01's term for a file's bytes together with its directory's place and count.
use Rattle.std.specs.Prelude.{ℕ, eqb}
use Rattle.reading.specs.Check.{Check, provided, ◌>>=◌, ◌>>◌}
use Rattle.abif.specs.Directory.{directory}

-- opening's checks, then a place or count other than opening's 4
unfoldable pub same_directory : ℕ → ℕ → Check (Unit {0})
same_directory place count = do
  d ← directory
  provided (eqb place d.place) 4
  provided (eqb count d.count) 4

-- a later call of a file that was opened with this place and count
unfoldable pub of_opened : {A : Type 0} → ℕ → ℕ → Check A → Check A
of_opened place count call = same_directory place count >> call
