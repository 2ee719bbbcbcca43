use mathlib.Core.Path.{◌∙◌}
use Rattle.abif.proofs.judge.Laws.{entry_tag, entry_new}
use Rattle.abif.proofs.judge.judge_entry.Goals as goal

pub returns-then-tag_among : goal.returns-then-tag_among
returns-then-tag_among c =
    let g = c.args in
    rw c.tag_field.ensures (entry_tag g.s.now g.entries.bytes.now g.entries.place g.i _ c.at-d.ensures _ c.tag_among.ensures c.if-tag_among.true)

pub returns : goal.returns
returns c =
    let g = c.args in
    c.entry_tests.ensures ∙ entry_new g.s.now g.entries.bytes.now g.entries.place g.i _ c.at-d.ensures _ c.tag_among.ensures c.if-tag_among.false
