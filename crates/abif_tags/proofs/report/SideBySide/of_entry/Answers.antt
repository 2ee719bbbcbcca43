use mathlib.Core.Path.{sym, ◌∙◌, ap}
use mathlib.Core.List.{[], ◌∷◌}
use Rattle.abif.specs.declared.tag.Tag.{Tag}
use Rattle.abif.specs.Entry.{entry_of}
use Rattle.abif_tags.specs.Table.{agrees}
use Rattle.abif_tags.specs.Order.{tag_at}
use Rattle.abif_tags.specs.Report.{not_in_profile}
use Rattle.abif_tags.proofs.report.Laws.{found_is, found_same, found_other}
use Rattle.abif_tags.proofs.report.SideBySide.of_entry.Goals as goal

pub returns-in-None : goal.returns-in-None
unfolding tag_at
returns-in-None c =
    ap (λ (t : Tag). not_in_profile t ∷ []) c.requires ∙ found_is _ _ _ c.args.at.tag c.requires c.in-None.ensures

pub returns-in-Some : goal.returns-in-Some
unfolding tag_at entry_of
returns-in-Some c =
    found_same _ _ c.in-Some.row c.args.at.tag c.requires c.in-Some.ensures (sym (c.admits.ensures ∙ λ i. agrees c.in-Some.row.published (c.be16-code.ensures i) (c.be32-count.ensures i)) ∙ c.if-admits.true)

pub returns-in-Some-2 : goal.returns-in-Some-2
unfolding tag_at entry_of
returns-in-Some-2 c =
    found_other _ _ c.in-Some.row c.args.at.tag c.requires c.in-Some.ensures (sym (c.admits.ensures ∙ λ i. agrees c.in-Some.row.published (c.be16-code.ensures i) (c.be32-count.ensures i)) ∙ c.if-admits.false)
