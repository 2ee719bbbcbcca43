-- A read's record, where there is room for it and where not.
use Prim.Native.Nat.{ℕ, ◌+◌, ◌≤◌, ◌<◌}
use mathlib.Core.Path.{◌≡◌, refl, ◌∙◌, ap}
use mathlib.Core.List.{List}
use native.Mathlib.Omega.{arith}
use lib.ListN.{length}
use lib.Seq.{sets, length-sets}
use borrow.Author.Tests.{le-leb, lt-leb}
use Rattle.std.specs.Prelude.{Result, Ok, Err, MatchResult}
use Rattle.reading.specs.declared.refusal.Refusal.{Refusal}
use Rattle.reading.specs.Refusal.{number}
use Rattle.reading.specs.Answers.{answer_of}
use Rattle.reading.specs.Check.{Answer, ok, refused}
use Rattle.reading.specs.Bulk.{record_of, placed}
use Rattle.reading.proofs.bulk.Laws as Bulk
use Rattle.sff_fields.specs.declared.parts.Read.{Read}
use Rattle.sff_fields.specs.Parts.{record_width, read_numbers}

-- a record is 17 numbers long
pub record_wide : (a : Answer Read) → length (record_of record_width read_numbers a) ≡ record_width
record_wide = Bulk.record_wide record_width read_numbers (omega arith) (λ _. refl)

module _ (o : List ℕ) (p : ℕ) (a : Answer Read) where
  pub no_room : length o < p + record_width → o ≡ placed o p (record_of record_width read_numbers a)
  no_room h = rw (record_wide a, lt-leb (p + record_width) (length o) h)

  -- what is written where there is room
  pub with_room : p + record_width ≤ length o → placed o p (record_of record_width read_numbers a) ≡ sets o p (record_of record_width read_numbers a)
  with_room h = rw (record_wide a, le-leb (p + record_width) (length o) h)

-- a record that was written where there is room, and two one after the other
pub one_written : (o : List ℕ) (p : ℕ) (a : Answer Read) (x : List ℕ) → x ≡ placed o p (record_of record_width read_numbers a) → p + record_width ≤ length o → x ≡ sets o p (record_of record_width read_numbers a)
one_written o p a x e h = e ∙ with_room o p a h

pub two_written : (o : List ℕ) (p q : ℕ) (a b : Answer Read) (x y : List ℕ) → x ≡ placed o p (record_of record_width read_numbers a) → y ≡ placed x q (record_of record_width read_numbers b) → p + record_width ≤ length o → q + record_width ≤ length o
    → y ≡ sets (sets o p (record_of record_width read_numbers a)) q (record_of record_width read_numbers b)
two_written o p q a b x y e f h k =
    let z = one_written o p a x e h in
    let l : length x ≡ length o = ap length z ∙ length-sets o p (record_of record_width read_numbers a) in
    one_written x q b y f (omega arith) ∙ ap (λ (w : List ℕ). sets w q (record_of record_width read_numbers b)) z

-- the record of a read that is refused by a `Refusal`: its number is what it converts to
pub record_told : (o : List ℕ) (p : ℕ) (read : Result Read Refusal) (x : List ℕ) → MatchResult read (λ r. x ≡ placed o p (record_of record_width read_numbers (ok r))) (λ e. (n : ℕ) × (n ≡ number e) × (x ≡ placed o p (record_of record_width read_numbers (refused n 0))))
    → x ≡ placed o p (record_of record_width read_numbers (answer_of read))
record_told o p (Ok r) x h = h
record_told o p (Err e) x h = h.2 ∙ ap (λ (n : ℕ). placed o p (record_of record_width read_numbers (refused n 0))) h.1
