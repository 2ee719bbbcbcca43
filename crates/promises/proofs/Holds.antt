-- Demand 3 for a format, from what its calls need.
use Prim.Native.Nat.{ℕ, ◌+◌, ◌-◌, ◌≤◌, ◌<◌, min}
use mathlib.Core.Path.{◌≡◌, refl, sym, ◌∙◌, ap, subst}
use mathlib.Core.Logic.{◌⊎◌, inl, inr}
use mathlib.Core.List.{List}
use mathlib.Core.Bool.{Bool, true, false}
use native.Mathlib.Omega.{arith}
use lib.Dec.{leb}
use lib.ListN.{length, take, length-take}
use borrow.Author.Tests.{leb-true, leb-false}
use Rattle.reading.specs.Check.{Answer, ok, refused, map_answer, answer}
use Rattle.reading.specs.Verdict.{with_tail, tail_of}
use Rattle.reading.proofs.Needed.{reach}
use Rattle.reading.specs.declared.part.Span.{Span}
use Rattle.reading.specs.Part.{Part, cut_to, handed_back}
use Rattle.reading.specs.Lent.{filled}
use Rattle.reading.proofs.Cut.{Refused1, refused1, answer_same, cuts, cut_or_same}
use Rattle.reading.proofs.Parts.{handed_kept}
use Rattle.promises.specs.Format.{Format}
use Rattle.promises.specs.Seen.{Seen, seen}
use Rattle.promises.specs.Demand3.{CutShort, Holds}

-- what is shown of a format: the parts handed back lie within the file, judging needs just the extent, and no other call needs more
pub record Needs (f : Format) : Type 0 where
  pub fits : (c : f.Call) (s : List ℕ) (v : (f.call c).Value) → answer (f.call c).checks s ≡ ok v → ((f.call c).span v).start + ((f.call c).span v).size ≤ length s
  pub extent : (s : List ℕ) (v : (f.call f.judging).Value) → answer (f.call f.judging).checks s ≡ ok v → reach (f.call f.judging).checks s ≡ f.extent v
  pub under : (c : f.Call) (s : List ℕ) (v : (f.call f.judging).Value) → answer (f.call f.judging).checks s ≡ ok v → reach (f.call c).checks s ≤ f.extent v

module _ (f : Format) (k : Needs f) where
  -- what a call shows of a file, from its answer
  abbrev shows : (c : f.Call) → Part → Answer (f.call c).Value → Seen f c
  shows c file r = record { answers = r; part = handed_back file (map_answer (f.call c).span r); list = filled (map_answer (f.call c).writes r) (f.call c).lent }

  part_same : (c : f.Call) (file : Part) (n : ℕ) (r : Answer (f.call c).Value) → answer (f.call c).checks (take n file.bytes) ≡ r → handed_back (cut_to n file) (map_answer (f.call c).span r) ≡ handed_back file (map_answer (f.call c).span r)
  part_same c file n (ok v) e = handed_kept file n (ok ((f.call c).span v)) (λ q h.
      let l : length (take n file.bytes) ≡ min n (length file.bytes) = length-take n file.bytes in
      let w = k.fits c (take n file.bytes) v e in
      let z : (f.call c).span v ≡ q = cc in
      subst (λ (x : Span). x.start + x.size ≤ n) z (omega arith))
  part_same c file n (refused m d) e = handed_kept file n (refused m d) (λ q h. let z : ◌≡◌ {A = ℕ} 0 1 = cc in absurd (omega arith))

  seen_same : (c : f.Call) (file : Part) (n : ℕ) → answer (f.call c).checks (take n file.bytes) ≡ answer (f.call c).checks file.bytes → seen f c (cut_to n file) ≡ seen f c file
  seen_same c file n e =
      ap (shows c (cut_to n file)) e ∙ ap (λ (p : Part). record { answers = answer (f.call c).checks file.bytes; part = p; list = filled (map_answer (f.call c).writes (answer (f.call c).checks file.bytes)) (f.call c).lent }) (part_same c file n (answer (f.call c).checks file.bytes) e)

  short : (c : f.Call) (file : Part) (r : Answer (f.call c).Value) → Refused1 r → answer (f.call c).checks file.bytes ≡ r → CutShort f c file
  short c file r (refused1 e) h = (e, ap (shows c file) h)

  -- the tail that judging tells of s where it answers r
  abbrev tail_at : List ℕ → Answer (f.call f.judging).Value → ℕ
  tail_at s r = tail_of (with_tail f.extent (length s) r)

  refused_tail : (s : List ℕ) (r : Answer (f.call f.judging).Value) → Refused1 r → tail_at s r ≡ 0
  refused_tail s r (refused1 e) = refl

  tail_of_cut : (s : List ℕ) (v : (f.call f.judging).Value) → answer (f.call f.judging).checks s ≡ ok v → (n : ℕ) (b : Bool) → leb (f.extent v) n ≡ b → tail_at (take n s) (answer (f.call f.judging).checks (take n s)) ≡ length (take n s) - f.extent v
  tail_of_cut s v w n true q =
      let e = k.extent s v w in
      ap (tail_at (take n s)) (answer_same (f.call f.judging).checks n s (omega (arith, leb-true (f.extent v) n q)) ∙ w)
  tail_of_cut s v w n false q =
      let e = k.extent s v w in
      let l : length (take n s) ≡ min n (length s) = length-take n s in
      refused_tail (take n s) _ ((cuts (f.call f.judging).checks s v w).cut n (omega (arith, leb-false (f.extent v) n q))) ∙ omega (arith, leb-false (f.extent v) n q)

  pub holds : Holds f
  holds =
      record {
        cut = λ c file n. either c file n (cut_or_same (f.call c).checks file.bytes n);
        within = λ file v w. subst (λ (x : ℕ). x ≤ length file.bytes) (k.extent file.bytes v w) (cuts (f.call f.judging).checks file.bytes v w).within;
        below = λ file v w n h. short f.judging (cut_to n file) _ ((cuts (f.call f.judging).checks file.bytes v w).cut n (subst (λ (x : ℕ). n < x) (sym (k.extent file.bytes v w)) h)) refl;
        from = λ file v w n h c. seen_same c file n (answer_same (f.call c).checks n file.bytes (omega (arith, k.under c file.bytes v w)));
        tail = λ file v w n. tail_of_cut file.bytes v w n (leb (f.extent v) n) refl;
      }
    where
      either : (c : f.Call) (file : Part) (n : ℕ) → Refused1 (answer (f.call c).checks (take n file.bytes)) ⊎ (answer (f.call c).checks (take n file.bytes) ≡ answer (f.call c).checks file.bytes) → CutShort f c (cut_to n file) ⊎ (seen f c (cut_to n file) ≡ seen f c file)
      either c file n (inl q) = inl (short c (cut_to n file) _ q refl)
      either c file n (inr q) = inr (seen_same c file n q)
