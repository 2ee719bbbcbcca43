-- Writing, from the answers of its parts.
use Prim.Native.Nat.{ℕ, ◌+◌, ◌*◌, ◌≤◌, ◌<◌}
use mathlib.Core.Path.{◌≡◌, sym, ◌∙◌, ap}
use mathlib.Core.List.{List, [], ◌++◌}
use mathlib.Core.Bool.{Bool, true, false}
use native.Mathlib.Omega.{arith}
use lib.IntN.{ℤ}
use lib.ListN.{length, drop}
use borrow.Author.Tests.{le-leb, lt-leb, leb-true}
use Rattle.reading.specs.Check.{ok, refused, answer, map_answer, holds}
use Rattle.reading.specs.Lent.{filled}
use Rattle.reading.proofs.Steps.{answer_bind, answer_must, answer_done}
use Rattle.reading.proofs.Passed.{bind_ok, must_ok, done_ok}
use Rattle.writing.specs.Put.{put}
use Rattle.writing.proofs.Over.{put_room}
use Rattle.abif_write.specs.declared.item.Item.{Item}
use Rattle.abif_write.specs.Item.{Records, records, item_at, same_lengths, ordered, items_check}
use Rattle.abif_write.specs.Private.{Sound, Accepted}
use Rattle.abif_write.specs.File.{directory_place, file, file_check}
use Rattle.abif_write.specs.Write.{writing}
use Rattle.abif_write.proofs.item.Laws.{items_sound, lengths_same}
use Rattle.abif_write.proofs.file.Laws.{length_file}

-- the last checks; x is the file's length
module _ (g : ℕ → Item) (b : List ℕ) (n room : ℕ) where
  pub file_many : 999 < n → answer (file_check g b n room) [] ≡ refused 5 0
  unfolding file_check holds
  file_many h = simp (answer_bind, answer_must, lt-leb n 999 h)

  module _ (s : (k : ℕ) → k < n → Sound b (g k)) (m : n ≤ 999) (p : ℕ) (ep : p ≡ directory_place g n) where
    long : length (file g b n) ≡ p + 28 * n
    long = length_file g b n s ∙ rw (← ep)

    pub file_over : 2147483647 < p + 28 * n → answer (file_check g b n room) [] ≡ refused 9 0
    unfolding file_check holds
    file_over h = simp (answer_bind, answer_must, le-leb n 999 m, long, lt-leb (p + 28 * n) 2147483647 h)

    module _ (h : p + 28 * n ≤ 2147483647) where
      pub file_little : room < p + 28 * n → answer (file_check g b n room) [] ≡ refused 13 0
      unfolding file_check holds
      file_little k = simp (answer_bind, answer_must, le-leb n 999 m, long, le-leb (p + 28 * n) 2147483647 h, lt-leb (p + 28 * n) room k)

      pub file_done : p + 28 * n ≤ room → answer (file_check g b n room) [] ≡ ok (file g b n)
      unfolding file_check holds
      file_done k = simp (answer_bind, answer_must, answer_done, le-leb n 999 m, long, le-leb (p + 28 * n) 2147483647 h, le-leb (p + 28 * n) room k)

-- what is answered, and what the output then holds, where the file is written
pub file_written : (g : ℕ → Item) (b o l : List ℕ) (n p : ℕ) → ((k : ℕ) → k < n → Sound b (g k)) → n ≤ 999 → p ≡ directory_place g n → p + 28 * n ≤ 2147483647 → p + 28 * n ≤ length o → l ≡ put o 0 (file g b n)
    → (ok (p + 28 * n) ≡ map_answer length (answer (file_check g b n (length o)) [])) × (l ≡ filled (answer (file_check g b n (length o)) []) o)
file_written g b o l n p s m ep h k e =
    let r = file_done g b n (length o) s m p ep h k in
    let z : length (file g b n) ≡ p + 28 * n = long g b n (length o) s m p ep in
    let q : 0 + length (file g b n) ≡ length (file g b n) = omega arith in
    (rw (r, z), rw r (e ∙ put_room o 0 (file g b n) (omega arith) ∙ ap (λ (i : ℕ). file g b n ++ drop i o) q))

module _ (r : Records) (b : List ℕ) (room : ℕ) (t : Bool) (et : t ≡ same_lengths r) where
  pub write_uneven : t ≡ false → answer (writing r b room) [] ≡ refused 9 0
  unfolding writing holds
  write_uneven f = simp (answer_bind, answer_must, ← et, f)

  module _ (f : t ≡ true) where
    pub write_refused : (n : ℕ) → refused n 0 ≡ answer (items_check (item_at r) b (length r.names) 0) [] → answer (writing r b room) [] ≡ refused n 0
    unfolding writing holds
    write_refused n q = simp (answer_bind, answer_must, ← et, f, ← q)

    module _ (q : ok tt ≡ answer (items_check (item_at r) b (length r.names) 0) []) where
      pub write_on : answer (writing r b room) [] ≡ answer (file_check (item_at r) b (length r.names) room) []
      unfolding writing holds
      write_on = simp (answer_bind, answer_must, ← et, f, ← q)

      pub accepted : Accepted r b
      accepted =
          record {
            same_lengths = lengths_same r (sym et ∙ f);
            sound = λ k l. (items_sound (item_at r) b (length r.names) 0 tt (sym q) k (omega arith) (omega arith)).0;
          }

-- what a call that wrote the file f has passed
pub record Made (names : List ℕ) (numbers types : List ℤ) (counts starts lengths b f : List ℕ) : Type 0 where
  pub checked : (k : ℕ) → k < length names → Sound b (item_at (records names numbers types counts starts lengths) k) × (ordered (item_at (records names numbers types counts starts lengths)) k ≡ true)
  pub few : length names ≤ 999
  pub short : length (file (item_at (records names numbers types counts starts lengths)) b (length names)) ≤ 0x7fffffff
  pub is : file (item_at (records names numbers types counts starts lengths)) b (length names) ≡ f

pub made : (names : List ℕ) (numbers types : List ℤ) (counts starts lengths b : List ℕ) (room : ℕ) (f : List ℕ) → answer (writing (records names numbers types counts starts lengths) b room) [] ≡ ok f → Made names numbers types counts starts lengths b f
unfolding writing file_check holds
made names numbers types counts starts lengths b room f h =
    let a = bind_ok _ _ [] f h in
    let c = bind_ok _ _ [] f a.2 in
    let d = bind_ok _ _ [] f c.2 in
    let e = bind_ok _ _ [] f d.2 in
    let r = bind_ok _ _ [] f e.2 in
    record {
      checked = λ k l. items_sound (item_at (records names numbers types counts starts lengths)) b (length names) 0 c.0 c.1 k (omega arith) (omega arith);
      few = leb-true _ _ (must_ok _ _ _ [] d.0 d.1);
      short = leb-true _ _ (must_ok _ _ _ [] e.0 e.1);
      is = done_ok _ f [] r.2;
    }
