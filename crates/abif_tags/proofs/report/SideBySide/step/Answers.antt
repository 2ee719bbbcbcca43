use mathlib.Core.Path.{◌∙◌, ap}
use mathlib.Core.Bool.{not}
use native.Mathlib.Omega.{arith}
use Rattle.abif_tags.proofs.report.Laws.{required_by, left_entry, left_row, left_missing, left_below, left_above, left_both}
use Rattle.abif_tags.proofs.report.SideBySide.step.Goals as goal

pub returns-then-j-eq-ROW_COUNT-clause-step_told : goal.returns-then-j-eq-ROW_COUNT-clause-step_told
returns-then-j-eq-ROW_COUNT-clause-step_told c =
    let s = c.args.self.now in
    rw c.of_entry.ensures (left_entry s.profile.number s.bytes.now s.place s.order.now c.args.i c.args.j (omega arith) (omega arith))

pub returns-then-ne-clause-step_told : goal.returns-then-ne-clause-step_told
returns-then-ne-clause-step_told c =
    let s = c.args.self.now in
    left_row s.profile.number s.bytes.now s.place s.order.now c.args.i c.args.j (omega arith) c.row_at-row.result c.row_at-row.ensures (required_by _ _ c.ne.ensures ∙ ap not c.if-ne.true)

pub returns-then-i-self-clause-step_told : goal.returns-then-i-self-clause-step_told
returns-then-i-self-clause-step_told c =
    let s = c.args.self.now in
    left_missing s.profile.number s.bytes.now s.place s.order.now c.args.i c.args.j (omega arith) c.row_at-row.result c.row_at-row.ensures (required_by _ _ c.ne.ensures ∙ ap not c.if-ne.false) (omega arith)

pub returns-in-Less-clause-step_told : goal.returns-in-Less-clause-step_told
returns-in-Less-clause-step_told c =
    let s = c.args.self.now in
    rw c.of_entry-in-Less.ensures (left_below s.profile.number s.bytes.now s.place s.order.now c.args.i c.args.j (omega arith) c.row_at-row.result c.row_at-row.ensures (required_by _ _ c.ne.ensures ∙ ap not c.if-ne.false) (omega arith) (c.args.self.now.tags_told _ _ (omega arith)) c.in-Less.ensures)

pub returns-in-Equal-clause-step_told : goal.returns-in-Equal-clause-step_told
returns-in-Equal-clause-step_told c =
    let s = c.args.self.now in
    rw c.of_entry-in-Equal.ensures (left_both s.profile.number s.bytes.now s.place s.order.now c.args.i c.args.j (omega arith) c.row_at-row.result c.row_at-row.ensures (required_by _ _ c.ne.ensures ∙ ap not c.if-ne.false) (omega arith) (c.args.self.now.tags_told _ _ (omega arith)) c.in-Equal.ensures)

pub returns-in-Greater-clause-step_told : goal.returns-in-Greater-clause-step_told
returns-in-Greater-clause-step_told c =
    let s = c.args.self.now in
    left_above s.profile.number s.bytes.now s.place s.order.now c.args.i c.args.j (omega arith) c.row_at-row.result c.row_at-row.ensures (required_by _ _ c.ne.ensures ∙ ap not c.if-ne.false) (omega arith) (c.args.self.now.tags_told _ _ (omega arith)) c.in-Greater.ensures
