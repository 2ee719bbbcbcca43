-- The raw entries of the directory, from the answers of their parts.
use Prim.Native.Nat.{ℕ, ◌+◌, ◌-◌, ◌*◌, ◌≤◌, ◌<◌}
use mathlib.Core.Path.{◌≡◌}
use mathlib.Core.List.{List}
use mathlib.Core.Bool.{false}
use Rattle.reading.specs.Choice.{is_number_of}
use native.Mathlib.Omega.{arith}
use lib.ListN.{take, drop}
use Rattle.reading.proofs.Width.{be_in_part, be_front}
use borrow.Author.Tests.{le-leb, lt-leb}
use Rattle.reading.specs.Check.{ok, refused, answer, holds}
use Rattle.reading.proofs.Steps.{answer_bind, answer_must, answer_done}
use Rattle.abif.specs.Entry.{entry_of}
use Rattle.abif.specs.Directory.{opening}
use Rattle.abif_file.specs.Entry.{raw_entry, entry_reading}
use Rattle.abif.proofs.directory.Laws.{opened_at}

module _ (s : List ℕ) (i : ℕ) where
  module _ (p n : ℕ) (h : answer opening s ≡ ok (p, n)) where
    pub entry_none : is_number_of i n ≡ false → refused 7 0 ≡ answer (entry_reading i) s
    unfolding entry_reading holds
    entry_none f = simp (answer_bind, answer_must, (opened_at s p n h).1, f)

    pub entry_before : i < 1 → refused 7 0 ≡ answer (entry_reading i) s
    entry_before f = entry_none (rw (lt-leb 1 i f))

    pub entry_past : 1 ≤ i → n < i → refused 7 0 ≡ answer (entry_reading i) s
    entry_past f g = entry_none (rw (le-leb 1 i f, lt-leb i n g))

    pub entry_there : 1 ≤ i → i ≤ n → ok (raw_entry (take (p + 28 * n) s) (p + 28 * (i - 1))) ≡ answer (entry_reading i) s
    unfolding entry_reading holds
    entry_there f g = simp (answer_bind, answer_must, answer_done, (opened_at s p n h).1, le-leb 1 i f, le-leb i n g)

-- an entry is that of the 28 bytes that it fills, whose number the code computes as k
pub raw_part : (h : List ℕ) (p k : ℕ) → k ≡ 28 → raw_entry (take k (drop p h)) 0 ≡ raw_entry h p
unfolding raw_entry entry_of
raw_part h p k e = rw (e, be_front 4 p 28 h (omega arith), be_in_part 4 p 28 4 h (omega arith), be_in_part 2 p 28 8 h (omega arith), be_in_part 2 p 28 10 h (omega arith), be_in_part 4 p 28 12 h (omega arith), be_in_part 4 p 28 16 h (omega arith), be_in_part 4 p 28 20 h (omega arith), be_in_part 4 p 28 24 h (omega arith))
