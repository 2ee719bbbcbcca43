use Prim.Native.Nat.{◌+◌, ◌*◌}
use mathlib.Core.Path.{◌≡◌, ◌∙◌}
use native.Mathlib.Omega.{arith}
use lib.ListN.{length}
use Rattle.reading.proofs.Fill.{fill_start, fill_next, fill_end}
use Rattle.abif_file.specs.List.{raw_entries}
use Rattle.abif_file.proofs.list.Laws.{next_entry, no_entry, all_entries}
use Rattle.abif_file.proofs.list.fill.Goals as goal

pub loop-i-init : goal.loop-i-init
loop-i-init c =
    let g = c.args in
    let p : g.place + 28 * 0 ≡ g.place = omega arith in
    rw p (fill_start (raw_entries g.h.now g.place) (length g.out.now) g.out.now (omega arith))

pub loop-i-preserved : goal.loop-i-preserved
loop-i-preserved c =
    let g = c.args in
    rw c.raw_entry.ensures (fill_next _ _ c.loop-i.i _ _ _ c.loop-i.invariant (omega arith) _ _ (next_entry g.h.now g.place c.loop-i.i))

pub returns : goal.returns
returns c =
    let g = c.args in
    fill_end _ _ _ _ _ _ c.loop-i.invariant (omega arith) (no_entry g.h.now _) ∙ all_entries g.h.now g.place g.out.now
