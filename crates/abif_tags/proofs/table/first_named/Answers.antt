use lib.Dec.{ltb}
use borrow.Author.Rules.{rules}
use Rattle.std.proofs.Common.{of_calls}
use Rattle.std.proofs.lemmas.Fn.{always_returns_same}
use Rattle.abif_tags.specs.declared.table.TheConstants.{TABLE}
use Rattle.abif_tags.specs.Private.{as_defined}
use Rattle.abif_tags.proofs.table.Laws.{table_is, names_parted, names_end}
use Rattle.abif_tags.proofs.table.first_named.Goals as goal

pub returns : goal.returns
returns c =
    let name = c.args.name in
    let found = c.partition_point.ensures in
    names_end TABLE table_is name _ found.bound (found.partitioned (λ row. ltb (as_defined row).first.name name) (always_returns_same _ _ _ (λ a r q k. search (rules, of_calls))) (names_parted TABLE table_is name))
