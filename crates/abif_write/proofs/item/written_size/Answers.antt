use mathlib.Core.Path.{◌∙◌, sym, ap}
use Rattle.abif_write.specs.Item.{written_size}
use Rattle.abif_write.proofs.item.written_size.Goals as goal

pub returns-in-Listed : goal.returns-in-Listed
unfolding written_size
returns-in-Listed c = ap written_size (sym c.in-Listed.is ∙ c.type_of.ensures)

pub returns-in-Raw : goal.returns-in-Raw
unfolding written_size
returns-in-Raw c = ap written_size (sym c.in-Raw.is ∙ c.type_of.ensures)

pub returns-in-Unknown : goal.returns-in-Unknown
unfolding written_size
returns-in-Unknown c = ap written_size (sym c.in-Unknown.is ∙ c.type_of.ensures)
