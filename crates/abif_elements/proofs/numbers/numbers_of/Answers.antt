use Prim.Native.Nat.{◌*◌}
use mathlib.Core.Path.{◌≡◌, ◌∙◌, sym, ap}
use mathlib.Core.Logic.{inl, inr}
use mathlib.Core.Bool.{true}
use native.Mathlib.Omega.{arith}
use lib.ListN.{length, take, length-take}
use borrow.Author.Tests.{le-leb}
use Rattle.std.proofs.lemmas.Bool.Decides.{nat_tests}
use Rattle.reading.specs.Choice.{is_number_of}
use Rattle.abif_elements.specs.Numbers.{wholes_at}
use Rattle.abif_elements.proofs.element.Laws.{outside}
use Rattle.abif_elements.proofs.numbers.Laws.{whole_listed, last_place, of_copied, of_other, of_none}
use Rattle.abif_elements.proofs.numbers.numbers_of.Goals as goal
use Rattle.abif_elements.proofs.numbers.numbers_of.Goals.{then-first-lt1-via-then-first-lt1, then-first-lt1-via-else-first-lt1+then-q-first}

pub returns-then-not-is_whole : goal.returns-then-not-is_whole
returns-then-not-is_whole c =
    let g = c.args in
    let e = of_other g.s.now g.q g.first (length g.out.now) (sym c.is_whole.ensures ∙ c.if-not-is_whole.true) in
    record {
      result_value = rw e;
      out_after = rw e;
    }

pub returns-then-first-lt1 : goal.returns-then-first-lt1
returns-then-first-lt1 c =
    let g = c.args in
    let e = of_none g.s.now g.q g.first (length g.out.now) (sym c.is_whole.ensures ∙ c.if-not-is_whole.false) (outside g.first g.q.count
    (elim c.then-first-lt1.branch [ then-first-lt1-via-then-first-lt1 w ↦ inl w.if-first-lt1.true | then-first-lt1-via-else-first-lt1+then-q-first w ↦ inr (w.if-first-lt1.false, w.if-q-first.true) ])) in
    record {
      result_value = rw e;
      out_after = rw e;
    }

pub copy_of_type-requires : goal.copy_of_type-requires
copy_of_type-requires c = let g = c.args in
    let k = whole_listed g.q.code (sym c.is_whole.ensures ∙ c.if-not-is_whole.false) in
    let e : g.q.size ≡ c.width_of-w.result * g.q.count = c.requires.sizes _ k ∙ rw c.width_of-w.ensures in
    let m = c.min-n.ensures in
    let l = last_place c.width_of-w.result g.first c.min-n.result g.q.count (omega arith) in
    let p = c.element_place-p.ensures.0 in
    let n : length (take c.min-n.result g.out.now) ≡ c.min-n.result = simp length-take (omega arith) in
    (c.width_of-w.ensures, rw n (simp length-take (omega arith)))

pub returns : goal.returns
returns c =
    let g = c.args in
    let f : is_number_of g.first g.q.count ≡ true = rw (le-leb 1 g.first (omega arith), le-leb g.first g.q.count (omega arith)) in
    let n : length (take c.min-n.result g.out.now) ≡ c.min-n.result = simp length-take (omega arith) in
    let written = c.copy_of_type.ensures ∙ ap (wholes_at _ _ _ _) n in
    let t = of_copied g.s.now g.q g.first g.out.now _ c.width_of-w.result _ _ c.element_place-p.ensures.0 c.width_of-w.ensures (c.min-n.ensures ∙ omega arith) (sym c.is_whole.ensures ∙ c.if-not-is_whole.false) f (grind (arith, nat_tests)) c.requires.within (rw written) in
    record { result_value = t.0; out_after = t.1 }
