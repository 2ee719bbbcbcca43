-- A loop that appends to the output: what is written so far, with what is left to write, is the whole.
-- W m is what m items left would write from the present state.
use Prim.Native.Nat.{ℕ, zero, suc, ◌+◌, ◌-◌, ◌≤◌, ◌<◌}
use mathlib.Core.Path.{◌≡◌, refl, sym, ◌∙◌, ap}
use mathlib.Core.List.{List, [], ◌++◌, append_assoc, append-nil}
use native.Mathlib.Omega.{arith}
use lib.ListN.{length, take, drop, length-append, length-take, take-append-drop}
use lib.Seq.{drop-drop}
use Rattle.reading.proofs.Loop.{Left, left_start, left_next, left_end}
use Rattle.writing.specs.Put.{put}
use Rattle.writing.proofs.Over.{put_room, length_put, take_put, drop_put}

pub record Begun (o l : List ℕ) (at : ℕ) (W : ℕ → List ℕ) (n i : ℕ) (whole : List ℕ) : Type 0 where
  pub up_to : i ≤ n
  pub inside : at ≤ length l
  pub same : length l ≡ length o
  pub rest : drop at l ≡ drop at o
  pub left : Left (λ m. take at l ++ W m) n i whole

-- nothing is written yet
pub begun_start : (o : List ℕ) (p : ℕ) (W : ℕ → List ℕ) (n : ℕ) → p ≤ length o → Begun o o p W n 0 (take p o ++ W n)
begun_start o p W n h = record { up_to = omega arith; inside = h; same = refl; rest = refl; left = left_start (λ m. take p o ++ W m) n }

module _ (o l : List ℕ) (at : ℕ) (W : ℕ → List ℕ) (n i : ℕ) (whole : List ℕ) (b : Begun o l at W n i whole) where
  module _ (v : List ℕ) (W' : ℕ → List ℕ) (f : (m : ℕ) → W (suc m) ≡ v ++ W' m) (h : i < n) (r : length whole ≤ length o) where
    -- there is room for the next item
    pub begun_room : at + length v ≤ length l
    begun_room =
        let e : take at l ++ (v ++ W' (n - suc i)) ≡ whole = sym (ap (λ (x : List ℕ). take at l ++ x) (f (n - suc i))) ∙ b.left (suc (n - suc i)) (omega arith) in
        omega (arith, simp (length-append, length-take) at (ap length e))

    -- the next item is written
    pub begun_next : (l' : List ℕ) → l' ≡ put l at v → Begun o l' (at + length v) W' n (i + 1) whole
    begun_next l' e =
        let k : at + length v ≤ length l = begun_room in
        let s : length l' ≡ length l = ap length e ∙ length_put l at v k in
        record {
          up_to = omega arith;
          inside = omega arith;
          same = s ∙ b.same;
          rest = ap (drop (at + length v)) e ∙ drop_put l at v k ∙ sym (drop-drop (length v) at l) ∙ ap (drop (length v)) b.rest ∙ drop-drop (length v) at o;
          left = left_next _ _ _ _ b.left (λ m. take (at + length v) l' ++ W' m) (λ m. rw (e, take_put l at v k, f m) (simp append_assoc));
        }

  -- all is written
  pub begun_end : n ≤ i → W zero ≡ [] → (l ≡ whole ++ drop at o) × (at ≡ length whole)
  begun_end h e =
      let q : take at l ++ W zero ≡ whole = left_end _ _ _ _ b.left b.up_to h in
      let z : take at l ≡ whole = sym (append-nil (take at l)) ∙ ap (λ (x : List ℕ). take at l ++ x) (sym e) ∙ q in
      (sym (take-append-drop at l) ∙ rw (z, b.rest), omega (arith, b.inside, simp length-take at (ap length z)))

-- the whole as one write
pub begun_put : (o l : List ℕ) (at p : ℕ) (w : List ℕ) → (l ≡ (take p o ++ w) ++ drop at o) × (at ≡ length (take p o ++ w)) → p + length w ≤ length o → (l ≡ put o p w) × (at ≡ p + length w)
begun_put o l at p w e h =
    let a : at ≡ p + length w = e.1 ∙ simp (length-append, length-take) (omega arith) in
    (e.0 ∙ rw (a, put_room o p w h, append_assoc), a)
