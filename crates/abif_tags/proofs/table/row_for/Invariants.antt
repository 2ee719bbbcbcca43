use Rattle.abif_tags.proofs.table.Laws.{Searched}
use Rattle.abif_tags.proofs.table.row_for.Given as goal

abbrev pub invariant-loop-k : goal.invariant-loop-k
invariant-loop-k l =
    Searched l.profile.number l.tag l.k
