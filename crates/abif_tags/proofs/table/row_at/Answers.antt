use mathlib.Core.Path.{◌∙◌, ap}
use Rattle.abif_tags.specs.declared.table.TheConstants.{TABLE}
use Rattle.abif_tags.specs.Table.{row_in, row_at}
use Rattle.abif_tags.proofs.table.Laws.{table_is, row_is}
use Rattle.abif_tags.proofs.table.row_at.Goals as goal

pub returns : goal.returns
unfolding row_at
returns c = c.in_profile.ensures ∙ ap (row_in c.args.profile.number) (row_is TABLE table_is c.args.k c.requires _)
