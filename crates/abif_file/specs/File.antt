-- ABIF: what opening a file gives.
use Rattle.std.specs.Prelude.{ℕ, List}
use Rattle.std.specs.Borrow.{Bor}
use Rattle.reading.specs.Check.{Answer, ok, refused, answer}
use Rattle.abif.specs.Directory.{opening}
use Rattle.abif_file.specs.declared.file.AbifFile.{AbifFile}

-- the directory's place and count; none of either where opening is refused
abbrev pub place_and_count : Answer (ℕ × ℕ) → ℕ × ℕ
place_and_count (ok x) = x
place_and_count (refused n e) = (0, 0)

-- the opened file: the bytes themselves, with the directory's place and count
abbrev pub opened_file : Bor (List ℕ) → AbifFile
opened_file s = record { bytes = s; place = (place_and_count (answer opening s.now)).0; count = (place_and_count (answer opening s.now)).1 }
