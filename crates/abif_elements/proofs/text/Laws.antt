-- The text of an item, from the answers of its parts.
use Prim.Native.Nat.{ℕ, ◌+◌, ◌-◌, ◌≤◌}
use mathlib.Core.Path.{◌≡◌, refl, sym, ◌∙◌}
use mathlib.Core.List.{List}
use mathlib.Core.Bool.{Bool, true, false}
use lib.ListN.{length, take, drop, length-take}
use native.Mathlib.Omega.{arith}
use lib.Dec.{eqb}
use borrow.Author.Tests.{eq-eqb, ne_eqb}
use Rattle.reading.specs.Choice.{pick}
use Rattle.reading.specs.Check.{ok, refused, answer, holds}
use Rattle.reading.specs.declared.part.Span.{Span}
use Rattle.reading.specs.Part.{bytes_at}
use Rattle.reading.proofs.Steps.{answer_bind, answer_must, answer_done, answer_need_present}
use Rattle.reading.proofs.Passed.{bind_ok, done_ok, must_ok, ok_inj}
use Rattle.reading.proofs.Fold.{window_length}
use Rattle.contents.proofs.text.Laws.{p_string_long, c_string_long}
use Rattle.contents.specs.Text.{is_pstring, is_cstring}
use Rattle.reading.specs.declared.item.ItemData.{ItemData}
use Rattle.abif.specs.Lookup.{looking_up}
use Rattle.reading.specs.Item.{data_span}
use Rattle.abif_elements.specs.Text.{p_string, c_string, text_of, text_reading}
use Rattle.abif.proofs.lookup.Laws.{found_checked}

-- the part that the code cuts out
module _ (q : ItemData) (l s : List ℕ) (h : q.start + q.size ≤ length l) (r : Bool) where
  module _ (e : r ≡ is_pstring (take (q.start + q.size - q.start) (drop q.start l))) where
    p_is : is_pstring (bytes_at l (data_span q)) ≡ r
    p_is =
        let k : q.start + q.size - q.start ≡ q.size = omega arith in
        sym (rw k at e)

    pub p_long : r ≡ true → 1 ≤ q.size
    p_long f = rw (window_length l q.start q.size q.size refl h) at (p_string_long (bytes_at l (data_span q)) (p_is ∙ f))

    pub p_bad : r ≡ false → refused 11 0 ≡ answer (p_string q l) s
    unfolding p_string holds
    p_bad f = simp (answer_bind, answer_must, p_is, f)

    pub p_good : r ≡ true → ok (record { start = q.start + 1; size = q.size - 1 }) ≡ answer (p_string q l) s
    unfolding p_string holds
    p_good f = simp (answer_bind, answer_must, answer_done, p_is, f)

  module _ (e : r ≡ is_cstring (take (q.start + q.size - q.start) (drop q.start l))) where
    c_is : is_cstring (bytes_at l (data_span q)) ≡ r
    c_is =
        let k : q.start + q.size - q.start ≡ q.size = omega arith in
        sym (rw k at e)

    pub c_long : r ≡ true → 1 ≤ q.size
    c_long f = rw (window_length l q.start q.size q.size refl h) at (c_string_long (bytes_at l (data_span q)) (c_is ∙ f))

    pub c_bad : r ≡ false → refused 11 0 ≡ answer (c_string q l) s
    unfolding c_string holds
    c_bad f = simp (answer_bind, answer_must, c_is, f)

    pub c_good : r ≡ true → ok (record { start = q.start; size = q.size - 1 }) ≡ answer (c_string q l) s
    unfolding c_string holds
    c_good f = simp (answer_bind, answer_must, answer_done, c_is, f)

module _ (q : ItemData) (s : List ℕ) where
  pub text_other : (q.code ≡ 18 → ⊥) → (q.code ≡ 19 → ⊥) → refused 10 0 ≡ answer (text_of q) s
  unfolding text_of holds
  text_other f g = simp (answer_bind, answer_must, ne_eqb q.code 18 f, ne_eqb q.code 19 g)

  module _ (f : q.start + q.size ≤ length s) where
    pub text_p : q.code ≡ 18 → answer (p_string q (take (q.start + q.size) s)) s ≡ answer (text_of q) s
    unfolding text_of holds
    text_p t = simp (answer_bind, answer_must, answer_need_present q.start (q.start + q.size) s f, eq-eqb q.code 18 t)

    pub text_c : q.code ≡ 19 → answer (c_string q (take (q.start + q.size) s)) s ≡ answer (text_of q) s
    unfolding text_of holds
    text_c t = simp (answer_bind, answer_must, answer_need_present q.start (q.start + q.size) s f, t)

-- where a text lies: within its item
module _ (q : ItemData) (l s : List ℕ) (r : Span) (h : q.start + q.size ≤ length l) where
  long : 1 ≤ length (bytes_at l (data_span q)) → 1 ≤ q.size
  long k = rw (window_length l q.start q.size q.size refl h) at k

  p_fits : answer (p_string q l) s ≡ ok r → r.start + r.size ≤ q.start + q.size
  unfolding p_string holds
  p_fits w =
      let a = bind_ok _ _ s r w in
      let g = done_ok _ r s a.2 in
      let k = long (p_string_long _ (must_ok _ _ _ s a.0 a.1)) in
      rw (← g) (omega arith)

  c_fits : answer (c_string q l) s ≡ ok r → r.start + r.size ≤ q.start + q.size
  unfolding c_string holds
  c_fits w =
      let a = bind_ok _ _ s r w in
      let g = done_ok _ r s a.2 in
      let k = long (c_string_long _ (must_ok _ _ _ s a.0 a.1)) in
      rw (← g) (omega arith)

  either_fits : (b : Bool) → answer (pick b (p_string q l) (c_string q l)) s ≡ ok r → r.start + r.size ≤ q.start + q.size
  either_fits true w = p_fits w
  either_fits false w = c_fits w

pub text_fits : (s : List ℕ) (a b : ℕ) (r : Span) → answer (text_reading a b) s ≡ ok r → r.start + r.size ≤ length s
unfolding text_reading text_of holds
text_fits s a b r w =
    let v = bind_ok (looking_up a b) text_of s r w in
    let q = v.0 in
    let c = bind_ok _ _ s r v.2 in
    let e = bind_ok _ _ s r c.2 in
    let k = found_checked s a b q v.1 in
    let z : take (q.start + q.size) s ≡ e.0 = ok_inj (sym (answer_need_present q.start (q.start + q.size) s k.within) ∙ e.1) in
    let n : q.start + q.size ≤ length e.0 = rw (← z) (simp length-take (omega arith)) in
    let i = either_fits q e.0 s r n (eqb q.code 18) e.2 in
    omega arith
