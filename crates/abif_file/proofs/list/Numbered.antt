-- Record j of a list, from 0, is entry j + 1.
use Prim.Native.Nat.{ℕ, zero, suc, ◌+◌, ◌-◌, ◌*◌}
use mathlib.Core.Path.{◌≡◌, sym, ◌∙◌, ap}
use mathlib.Core.List.{List, ◌∷◌}
use mathlib.Core.Bool.{true}
use native.Mathlib.Omega.{arith}
use lib.ListN.{length, drop, length-drop}
use borrow.Author.Tests.{le-leb}
use Rattle.reading.specs.Choice.{is_number_of}
use Rattle.reading.specs.Check.{ok, answer, holds, provided}
use Rattle.reading.proofs.Steps.{answer_must, answer_done}
use Rattle.reading.proofs.Passed.{bind_ok, bind_answered, done_ok, ok_inj}
use Rattle.abif_file.specs.declared.entry.RawEntry.{RawEntry}
use Rattle.abif.specs.Directory.{directory, opening}
use Rattle.abif_file.specs.Entry.{raw_entry, entry_reading}
use Rattle.abif.proofs.Passing.{opening_passes}
use Rattle.abif_file.specs.List.{raw_entries, listing}
use Rattle.abif_file.proofs.list.Laws.{length_entries}

each_entry : (h : List ℕ) (n p j : ℕ) (e : RawEntry) (l : List RawEntry) → drop j (raw_entries h p n) ≡ e ∷ l → raw_entry h (p + 28 * j) ≡ e
unfolding raw_entries
each_entry h zero p j e l q =
    let k : length (drop j (raw_entries h p zero)) ≡ suc (length l) = ap length q in
    let m : length (drop j (raw_entries h p zero)) ≡ 0 - j = length-drop j (raw_entries h p zero) in
    absurd (omega arith)
each_entry h (suc n) p zero e l q =
    let z : raw_entry h p ≡ e = cc in
    ap (raw_entry h) (omega arith) ∙ z
each_entry h (suc n) p (suc j) e l q = ap (raw_entry h) (omega arith) ∙ each_entry h n (p + 28) j e l q

-- the records of a list are the entries of the directory, each at its number
pub entries_of : (s : List ℕ) (room : ℕ) (es : List RawEntry) → answer (listing room) s ≡ ok es → ((j : ℕ) (e : RawEntry) (l : List RawEntry) → drop j es ≡ e ∷ l → answer (entry_reading (suc j)) s ≡ ok e) × ((p n : ℕ) → answer opening s ≡ ok (p, n) → length es ≡ n)
unfolding listing entry_reading holds
entries_of s room es w =
    let a = bind_ok directory _ s es w in
    let c = bind_ok _ _ s es a.2 in
    let d = a.0 in
    let z : raw_entries d.up_to d.place d.count ≡ es = done_ok _ es s c.2 in
    let g : length es ≡ d.count = ap length (sym z) ∙ length_entries d.up_to d.count d.place in (
      λ j e l q.
          let h : length (drop j es) ≡ length es - j = length-drop j es in
          let k : length (drop j es) ≡ suc (length l) = ap length q in
          let i : is_number_of (suc j) d.count ≡ true = rw (le-leb 1 (suc j) (omega arith), le-leb (suc j) d.count (omega arith)) in
          sym (bind_answered directory _ s d a.1)
          ∙ sym (bind_answered (provided (is_number_of (suc j) d.count) 7) _ s tt (simp (answer_must, i)))
          ∙ answer_done _ s
          ∙ ap (λ (x : ℕ). ok (raw_entry d.up_to (d.place + 28 * x))) (omega arith)
          ∙ ap ok (each_entry d.up_to d.count d.place j e l (ap (drop j) z ∙ q)),
      λ p n o. g ∙ ap (λ (x : ℕ × ℕ). x.1) (ok_inj (sym (opening_passes s d a.1) ∙ o)),
    )
