-- The directory's entries in a lent list: the list after each turn of a loop that fills it, and the list that the calls leave.
use Prim.Native.Nat.{ℕ, zero, suc, ◌+◌, ◌*◌, ◌≤◌, ◌<◌}
use mathlib.Core.Path.{◌≡◌, refl, sym, ◌∙◌, ap, subst}
use mathlib.Core.List.{List, [], ◌∷◌, ◌++◌}
use native.Mathlib.Numerals.{add-one}
use native.Mathlib.Omega.{arith}
use lib.ListN.{length, take, drop, set, length-set}
use lib.Seq.{drop-length}
use Rattle.std.specs.Prelude.{Result}
use Rattle.std.proofs.lemmas.List.{append-nil}
use borrow.Author.Tests.{le-leb, lt-leb, leb-true}
use Rattle.reading.specs.Number.{be}
use Rattle.reading.specs.Check.{Answer, ok, refused, map_answer, answer, holds}
use Rattle.reading.specs.Lent.{filled}
use Rattle.reading.specs.Answers.{answer_of}
use Rattle.reading.specs.declared.refusal.Refusal.{Refusal}
use Rattle.reading.proofs.Fill.{Filling, fill_start, fill_next, fill_end}
use Rattle.reading.proofs.Width.{be_taken}
use Rattle.reading.proofs.Steps.{after, answer_bind, answer_must, answer_done}
use Rattle.reading.proofs.Passed.{bind_ok, done_ok, must_ok}
use Rattle.abif_file.specs.declared.entry.RawEntry.{RawEntry}
use Rattle.abif.specs.Entry.{entry_of}
use Rattle.abif.specs.Directory.{Directory, directory, opening}
use Rattle.abif_file.specs.Entry.{raw_entry}
use Rattle.abif.proofs.directory.Laws.{opened_at, after_refused, directory_lies}
use Rattle.abif_file.specs.List.{raw_entries, listing}
use Rattle.abif_file.specs.Opened.{same_directory, of_opened}

-- the next entry of a directory at place p
pub next_entry : (h : List ℕ) (p i m : ℕ) → raw_entries h (p + 28 * i) (suc m) ≡ raw_entry h (p + 28 * i) ∷ raw_entries h (p + 28 * (i + 1)) m
unfolding raw_entries
next_entry h p i m = ap (λ (k : ℕ). raw_entry h (p + 28 * i) ∷ raw_entries h k m) (omega arith)

pub no_entry : (h : List ℕ) (p : ℕ) → raw_entries h p zero ≡ []
unfolding raw_entries
no_entry h p = refl

-- the list xs after i turns: entry j of the directory at place p stands at place j
module _ (s : List ℕ) (p : ℕ) (xs : List RawEntry) where
  abbrev pub written : ℕ → List RawEntry
  written zero = xs
  written (suc i) = set (written i) i (raw_entry s (p + 28 * i))

  pub length_written : (i : ℕ) → length (written i) ≡ length xs
  length_written zero = refl
  length_written (suc i) = length-set (written i) i (raw_entry s (p + 28 * i)) ∙ length_written i

  module _ (n : ℕ) (h : n ≤ length xs) where
    abbrev Upto : ℕ → ℕ → Type 0
    Upto i j = Filling (raw_entries s (p + 28 * i)) n j xs (written i) (raw_entries s (p + 28 * 0) n ++ drop n xs)

    next : (i m : ℕ) → raw_entries s (p + 28 * i) (suc m) ≡ raw_entry s (p + 28 * i) ∷ raw_entries s (p + 28 * suc i) m
    unfolding raw_entries
    next i m = ap (λ (k : ℕ). raw_entry s (p + 28 * i) ∷ raw_entries s k m) (omega arith)

    up_to : (i : ℕ) → i ≤ n → Upto i i
    up_to zero l = fill_start (raw_entries s (p + 28 * 0)) n xs h
    up_to (suc i) l = subst (Upto (suc i)) (add-one i) (fill_next _ n i xs (written i) _ (up_to i (omega arith)) (omega arith) (raw_entry s (p + 28 * i)) (raw_entries s (p + 28 * suc i)) (next i))

    pub all_written : written n ≡ raw_entries s p n ++ drop n xs
    all_written = fill_end _ n n xs (written n) _ (up_to n (omega arith)) (omega arith) (no_entry s (p + 28 * n)) ∙ ap (λ (k : ℕ). raw_entries s k n ++ drop n xs) (omega arith)

-- the entries in the bytes up to place e are those in the bytes
module _ (s : List ℕ) (e : ℕ) where
  raw_taken : (p : ℕ) → p + 28 ≤ e → raw_entry (take e s) p ≡ raw_entry s p
  unfolding raw_entry entry_of
  raw_taken p h = rw (be_taken 4 e p s (omega arith), be_taken 4 e (p + 4) s (omega arith), be_taken 2 e (p + 8) s (omega arith), be_taken 2 e (p + 10) s (omega arith), be_taken 4 e (p + 12) s (omega arith), be_taken 4 e (p + 16) s (omega arith), be_taken 4 e (p + 20) s (omega arith), be_taken 4 e (p + 24) s (omega arith))

  entries_taken : (n p : ℕ) → p + 28 * n ≤ e → raw_entries (take e s) p n ≡ raw_entries s p n
  unfolding raw_entries
  entries_taken zero p h = refl
  entries_taken (suc n) p h = rw (raw_taken p (omega arith), entries_taken n (p + 28) (omega arith))

pub length_entries : (s : List ℕ) (n p : ℕ) → length (raw_entries s p n) ≡ n
unfolding raw_entries
length_entries s zero p = refl
length_entries s (suc n) p = ap suc (length_entries s n (p + 28))

-- what fills the whole list leaves nothing of it
pub all_entries : (h : List ℕ) (p : ℕ) (out : List RawEntry) → raw_entries h p (length out) ++ drop (length out) out ≡ raw_entries h p (length out)
all_entries h p out = rw (drop-length out) (append-nil _)

-- the directory's place, which stands in the offset field of the header's entry
abbrev pub directory_offset : List ℕ → ℕ
directory_offset s = be 4 s 26

-- the first n entries of that directory are there
abbrev pub EntriesPresent : List ℕ → ℕ → Type 0
EntriesPresent s n = (i : ℕ) → i < n → directory_offset s + 28 * i + 28 ≤ length s

-- how many entries a list gets whose call is answered so
abbrev pub entries_listed : Answer ℕ → ℕ
entries_listed (ok n) = n
entries_listed (refused n e) = 0

-- what a call that lists tells: how many entries are written, and what the list then holds
pub record Told (room : ℕ) (s : List ℕ) (a : Answer (List RawEntry)) : Type 0 where
  pub few : entries_listed (map_answer length a) ≤ room
  pub there : EntriesPresent s (entries_listed (map_answer length a))
  pub whole : (xs : List RawEntry) → raw_entries s (be 4 s 26) (entries_listed (map_answer length a)) ++ drop (entries_listed (map_answer length a)) xs ≡ filled a xs

module _ (room : ℕ) (s : List ℕ) where
  refused_told : (n e : ℕ) → Told room s (refused n e)
  unfolding raw_entries
  refused_told n e = record { few = omega arith; there = λ i h. absurd (omega arith); whole = λ xs. refl }

  entries_told : (d : Directory) → answer directory s ≡ ok d → d.count ≤ room → Told room s (ok (raw_entries d.up_to d.place d.count))
  entries_told d h l =
      let q = directory_lies s d h in
      let k = length_entries s d.count (be 4 s 26) in
      let f : raw_entries d.up_to d.place d.count ≡ raw_entries s (be 4 s 26) d.count = rw (q.bytes, q.told) (entries_taken s (be 4 s 26 + 28 * d.count) d.count (be 4 s 26) (omega arith)) in
      rw f (record { few = rw k l; there = rw k (λ i h. omega (arith, q.within, q.told)); whole = λ xs. rw k })

  pub listing_told : Told room s (answer (listing room) s)
  unfolding listing holds
  listing_told = go (answer (listing room) s) refl
    where
      go : (a : Answer (List RawEntry)) → answer (listing room) s ≡ a → Told room s a
      go (refused n e) q = refused_told n e
      go (ok l) q =
          let b = bind_ok _ _ s l q in
          let c = bind_ok _ _ s l b.2 in
          subst (λ (x : List RawEntry). Told room s (ok x)) (done_ok _ _ s c.2) (entries_told b.0 b.1 (leb-true _ _ (must_ok _ _ _ s c.0 c.1)))

  pub opened_told : (p n : ℕ) → Told room s (answer (of_opened p n (listing room)) s)
  unfolding of_opened
  opened_told p n = rw (answer_bind (same_directory p n) (λ _. listing room) s) (go (answer (same_directory p n) s))
    where
      go : (r : Answer (Unit {0})) → Told room s (after r (λ _. answer (listing room) s))
      go (ok u) = listing_told
      go (refused m e) = refused_told m e

-- what the end of a listing needs and leaves, m being how many entries it says
module _ (room : ℕ) (s : List ℕ) (a : Answer (List RawEntry)) (t : Told room s a) (r : Result ℕ Refusal) (m : ℕ) (e : answer_of r ≡ map_answer length a) (f : m ≡ entries_listed (answer_of r)) where
  number : m ≡ entries_listed (map_answer length a)
  number = f ∙ ap entries_listed e

  pub fitting : (m ≤ room) × EntriesPresent s m
  fitting = rw number (t.few, t.there)

  pub leaves : (xs zs : List RawEntry) → zs ≡ raw_entries s (be 4 s 26) m ++ drop m xs → (answer_of r ≡ map_answer length a) × (zs ≡ filled a xs)
  leaves xs zs g = (e, g ∙ ap (λ (k : ℕ). raw_entries s (be 4 s 26) k ++ drop k xs) number ∙ t.whole xs)

-- what a list of this room is told where opening is refused
pub list_unopened : (room : ℕ) (s : List ℕ) (k : ℕ) → answer opening s ≡ refused k 0 → answer (listing room) s ≡ refused k 0
unfolding listing
list_unopened room s k h = sym (after_refused _ s k h)

-- what a list of this room is told where opening gives place p and count n
module _ (room : ℕ) (s : List ℕ) (p n : ℕ) (h : answer opening s ≡ ok (p, n)) where
  pub list_over : room < n → answer (listing room) s ≡ refused 13 0
  unfolding listing holds
  list_over l = simp (answer_bind, answer_must, (opened_at s p n h).1, lt-leb n room l)

  pub list_all : n ≤ room → answer (listing room) s ≡ ok (raw_entries (take (p + 28 * n) s) p n)
  unfolding listing holds
  list_all l = simp (answer_bind, answer_must, answer_done, (opened_at s p n h).1, le-leb n room l)

  pub list_full : n ≤ room → (xs zs : List RawEntry) → zs ≡ raw_entries (take (p + 28 * n) s) p n ++ drop n xs → (ok n ≡ map_answer length (answer (listing room) s)) × (zs ≡ filled (answer (listing room) s) xs)
  list_full l xs zs e =
      let k = length_entries (take (p + 28 * n) s) n p in
      let a = list_all l in
      (rw a (ap ok (sym k)), rw (a, k) e)
