use Prim.Native.Nat.{◌+◌, ◌*◌}
use mathlib.Core.Path.{◌≡◌, refl, ◌∙◌}
use native.Mathlib.Omega.{arith}
use lib.ListN.{length}
use mir.Syntax.{w64}
use mir.Val.{to_z, of_z}
use borrow.Author.Rules.{rules}
use Rattle.reading.proofs.Fill.{fill_start, fill_next, fill_end}
use Rattle.abif_elements.proofs.numbers.Laws.{next_whole, all_wholes}
use Rattle.abif_elements.specs.Numbers.{wholes_at}
use Rattle.abif_elements.proofs.numbers.copy.Goals as goal

pub loop-i-init : goal.loop-i-init
loop-i-init c =
    let g = c.args in
    let p : g.p + g.w * 0 ≡ g.p = omega arith in
    rw p (fill_start (wholes_at g.code g.w g.l.now g.p) (length g.out.now) g.out.now (omega arith))

pub loop-i-preserved : goal.loop-i-preserved
loop-i-preserved c =
    let g = c.args in
    let n = length g.out.now in
    let f : to_z w64 (of_z w64 c.whole_at.result) ≡ c.whole_at.result = search rules in
    fill_next _ n c.loop-i.i g.out.now c.loop-i.out _ c.loop-i.invariant (omega arith) (to_z w64 (of_z w64 c.whole_at.result)) _ (λ m. rw (f, c.whole_at.ensures) (next_whole g.code g.w g.l.now g.p c.loop-i.i m))

pub returns : goal.returns
unfolding wholes_at
returns c =
    fill_end _ _ _ _ _ _ c.loop-i.invariant (omega arith) refl ∙ all_wholes _ _ _ _ c.args.out.now
