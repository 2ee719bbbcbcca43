-- A loop that fills a lent list from its front: what is written, what is left to write, and what stays are the whole.
-- W m is what m items left would write from the present state.
use Prim.Native.Nat.{ℕ, zero, suc, ◌+◌, ◌-◌, ◌≤◌, ◌<◌}
use mathlib.Core.Path.{◌≡◌, refl, sym, ◌∙◌, ap, subst}
use mathlib.Core.List.{List, [], ◌∷◌, ◌++◌, append_assoc}
use native.Mathlib.Numerals.{add-one}
use native.Mathlib.Omega.{arith}
use lib.ListN.{length, take, drop, set, length-set, length-append, length-drop, take-append-drop}
use lib.Seq.{length-take-le, take-suc-set, take-set-le, drop-set-lt, drop-set-add, drop-drop, take_at, sets, length-sets, sets-eq}
use Rattle.reading.proofs.Loop.{Left, left_start, left_next, left_end}

pub record Filling {A : Type 0} (W : ℕ → List A) (n i : ℕ) (o out whole : List A) : Type 0 where
  pub up_to : i ≤ n
  pub room : n ≤ length out
  pub same : length out ≡ length o
  pub left : Left (λ m. take i out ++ (W m ++ drop n out)) n i whole

module _ {A : Type 0} where
  -- nothing is written yet
  pub fill_start : (W : ℕ → List A) (n : ℕ) (o : List A) → n ≤ length o → Filling W n 0 o o (W n ++ drop n o)
  fill_start W n o h = record { up_to = omega arith; room = h; same = refl; left = left_start (λ m. W m ++ drop n o) n }

  drop_sets : (n : ℕ) (vs l : List A) (i : ℕ) → i + length vs ≤ n → drop n (sets l i vs) ≡ drop n l
  drop_sets n [] l i h = refl
  drop_sets n (a ∷ vs) l i h = drop_sets n vs (set l i a) (suc i) (omega arith) ∙ drop-set-lt n l i a (omega arith)

  pub front_sets : (vs l : List A) (i w : ℕ) → length vs ≡ w → i + w ≤ length l → take (i + w) (sets l i vs) ≡ take i l ++ vs
  front_sets vs l i w e h =
      let z : length (take i l ++ vs) ≡ i + w = length-append (take i l) vs ∙ ap (λ (k : ℕ). k + length vs) (length-take-le i l (omega arith)) ∙ ap (λ (k : ℕ). i + k) e in
      ap (take (i + w)) (sets-eq vs l i (omega arith)) ∙ take_at (take i l ++ vs) (drop (i + length vs) l) (i + w) z

  module _ (W : ℕ → List A) (n i : ℕ) (o out whole : List A) (f : Filling W n i o out whole) where
    -- the next item is written
    pub fill_next : i < n → (v : A) (W' : ℕ → List A) → ((m : ℕ) → W (suc m) ≡ v ∷ W' m) → Filling W' n (i + 1) o (set out i v) whole
    fill_next h v W' g =
        let r : n ≤ length out = f.room in
        let l : length (set out i v) ≡ length out = length-set out i v in
        let q : i < length out = omega arith in
        record {
          up_to = omega arith;
          room = omega arith;
          same = l ∙ f.same;
          left = left_next _ _ _ _ f.left (λ m. take (i + 1) (set out i v) ++ (W' m ++ drop n (set out i v))) (λ m. rw (add-one i, take-suc-set out i v q, drop-set-lt n out i v h, g m) (simp append_assoc));
        }

    -- the next items are written, one after the other
    pub fill_many : (vs : List A) → i + length vs ≤ n → (W' : ℕ → List A) → ((m : ℕ) → W (length vs + m) ≡ vs ++ W' m) → Filling W' n (i + length vs) o (sets out i vs) whole
    fill_many vs h W' g =
        let r : n ≤ length out = f.room in
        let l : length (sets out i vs) ≡ length out = length-sets out i vs in
        let t : take (i + length vs) (sets out i vs) ≡ take i out ++ vs = front_sets vs out i (length vs) refl (omega arith) in
        record {
          up_to = h;
          room = omega arith;
          same = l ∙ f.same;
          left = λ m e. rw (t, drop_sets n vs out i h) (append_assoc (take i out) vs (W' m ++ drop n out) ∙ ap (λ (x : List A). take i out ++ x) (sym (append_assoc vs (W' m) (drop n out))) ∙ ap (λ (x : List A). take i out ++ (x ++ drop n out)) (sym (g m)) ∙ f.left (length vs + m) (omega arith));
        }

    -- the next item is a record of w numbers
    pub fill_record : (vs : List A) (w : ℕ) → length vs ≡ w → i + w ≤ n → (W' : ℕ → List A) → ((m : ℕ) → W (w + m) ≡ vs ++ W' m) → Filling W' n (i + w) o (sets out i vs) whole
    fill_record vs w e h W' g = subst (λ (k : ℕ). i + k ≤ n → ((m : ℕ) → W (k + m) ≡ vs ++ W' m) → Filling W' n (i + k) o (sets out i vs) whole) e (λ l f. fill_many vs l W' f) h g

    -- all is written
    pub fill_end : n ≤ i → W zero ≡ [] → out ≡ whole
    fill_end h e =
        let u : i ≤ n = f.up_to in
        let k : n ≡ i = omega arith in
        sym (take-append-drop i out) ∙ ap (λ (j : ℕ). take i out ++ drop j out) (sym k) ∙ ap (λ (l : List A). take i out ++ (l ++ drop n out)) (sym e) ∙ left_end _ _ _ _ f.left u h

-- A loop that fills a lent list from its front and from place n on, in turns, n numbers each: W m and Y m are what m numbers left would write there.
pub record Lanes {A : Type 0} (W Y : ℕ → List A) (n i : ℕ) (o out whole : List A) : Type 0 where
  pub up_to : i ≤ n
  pub room : n + n ≤ length out
  pub same : length out ≡ length o
  pub left : Left (λ m. take i out ++ (W m ++ (take i (drop n out) ++ (Y m ++ drop n (drop n out))))) n i whole

module _ {A : Type 0} where
  -- what stands before the numbers that are set, and what stands behind them
  take_sets : (vs l : List A) (i k : ℕ) → k ≤ i → take k (sets l i vs) ≡ take k l
  take_sets [] l i k h = refl
  take_sets (a ∷ vs) l i k h = take_sets vs (set l i a) (suc i) k (omega arith) ∙ take-set-le k l i a h

  drop_sets_add : (n : ℕ) (vs l : List A) (i : ℕ) → drop n (sets l (n + i) vs) ≡ sets (drop n l) i vs
  drop_sets_add n [] l i = refl
  drop_sets_add n (a ∷ vs) l i =
      let e : suc (n + i) ≡ n + suc i = omega arith in
      ap (λ (k : ℕ). drop n (sets (set l (n + i) a) k vs)) e ∙ drop_sets_add n vs (set l (n + i) a) (suc i) ∙ ap (λ (y : List A). sets y (suc i) vs) (drop-set-add n l i a)

  lanes_join : (a b c d e f g : List A) → (a ++ b) ++ (c ++ ((d ++ e) ++ (f ++ g))) ≡ a ++ ((b ++ c) ++ (d ++ ((e ++ f) ++ g)))
  lanes_join a b c d e f g = simp append_assoc

  -- nothing is written yet
  pub lanes_start : (W Y : ℕ → List A) (n : ℕ) (o : List A) → n + n ≤ length o → Lanes W Y n 0 o o (W n ++ (Y n ++ drop (n + n) o))
  lanes_start W Y n o h =
      record {
        up_to = omega arith;
        room = h;
        same = refl;
        left = rw (← drop-drop n n o) (left_start (λ m. W m ++ (Y m ++ drop n (drop n o))) n);
      }

  module _ (W Y : ℕ → List A) (n i : ℕ) (o out whole : List A) (f : Lanes W Y n i o out whole) where
    -- the next record of each is written, w numbers long
    pub lanes_next : (w : ℕ) → i + w ≤ n → (vs us : List A) → length vs ≡ w → length us ≡ w → (W' Y' : ℕ → List A) → ((m : ℕ) → W (w + m) ≡ vs ++ W' m) → ((m : ℕ) → Y (w + m) ≡ us ++ Y' m) → Lanes W' Y' n (i + w) o (sets (sets out i vs) (n + i) us) whole
    lanes_next w h vs us p q W' Y' g k =
        let r : n + n ≤ length out = f.room in
        let l : length (sets (sets out i vs) (n + i) us) ≡ length out = length-sets (sets out i vs) (n + i) us ∙ length-sets out i vs in
        let e : length (drop n out) ≡ length out - n = length-drop n out in
        let x : take (i + w) (sets (sets out i vs) (n + i) us) ≡ take i out ++ vs = take_sets us (sets out i vs) (n + i) (i + w) (omega arith) ∙ front_sets vs out i w p (omega arith) in
        let d : drop n (sets (sets out i vs) (n + i) us) ≡ sets (drop n out) i us = drop_sets_add n us (sets out i vs) i ∙ ap (λ (y : List A). sets y i us) (drop_sets n vs out i (omega arith)) in
        let y : take (i + w) (sets (drop n out) i us) ≡ take i (drop n out) ++ us = front_sets us (drop n out) i w q (omega arith) in
        let z : drop n (sets (drop n out) i us) ≡ drop n (drop n out) = drop_sets n us (drop n out) i (omega arith) in
        record {
          up_to = h;
          room = omega arith;
          same = l ∙ f.same;
          left = λ m c. rw (x, d, y, z) (lanes_join (take i out) vs (W' m) (take i (drop n out)) us (Y' m) (drop n (drop n out)) ∙ ap (λ (j : List A). take i out ++ (j ++ (take i (drop n out) ++ ((us ++ Y' m) ++ drop n (drop n out))))) (sym (g m)) ∙ ap (λ (j : List A). take i out ++ (W (w + m) ++ (take i (drop n out) ++ (j ++ drop n (drop n out))))) (sym (k m)) ∙ f.left (w + m) (omega arith));
        }

    -- all is written
    pub lanes_end : n ≤ i → W zero ≡ [] → Y zero ≡ [] → out ≡ whole
    lanes_end h e d =
        let t : i ≤ n = f.up_to in
        let k : i ≡ n = omega arith in
        let z : (take i out ++ (W zero ++ (take i (drop n out) ++ (Y zero ++ drop n (drop n out))))) ≡ whole = left_end _ _ _ _ f.left t h in
        let x : (take i out ++ (take i (drop n out) ++ drop n (drop n out))) ≡ whole = rw (e, d) at z in
        sym (take-append-drop n out) ∙ ap (λ (x : List A). take n out ++ x) (sym (take-append-drop n (drop n out))) ∙ ap (λ (j : ℕ). take j out ++ (take j (drop n out) ++ drop n (drop n out))) (sym k) ∙ x
