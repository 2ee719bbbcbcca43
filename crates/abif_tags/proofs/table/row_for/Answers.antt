use native.Mathlib.Omega.{arith}
use mathlib.Core.Path.{sym, ◌∙◌}
use Rattle.abif_tags.proofs.table.Laws.{searched_start, searched_next, searched_found, searched_past, searched_end}
use Rattle.abif_tags.proofs.table.row_for.Goals as goal

pub loop-k-init : goal.loop-k-init
loop-k-init c = searched_start _ _ _ c.first_named-k.ensures

pub returns-then-row-tag : goal.returns-then-row-tag
returns-then-row-tag c =
    searched_past _ _ c.loop-k.k c.loop-k.invariant (omega arith) c.row_at-row.result c.row_at-row.ensures c.if-row-tag.true

pub returns-then-stands_for : goal.returns-then-stands_for
returns-then-stands_for c =
    searched_found _ _ c.loop-k.k c.loop-k.invariant (omega arith) c.row_at-row.result c.row_at-row.ensures (sym c.stands_for.ensures ∙ c.if-stands_for.true)

pub loop-k-preserved : goal.loop-k-preserved
loop-k-preserved c =
    searched_next _ _ c.loop-k.k c.loop-k.invariant (omega arith) c.row_at-row.result c.row_at-row.ensures (sym c.stands_for.ensures ∙ c.if-stands_for.false)

pub returns : goal.returns
returns c = searched_end _ _ c.loop-k.k c.loop-k.invariant (omega arith)
