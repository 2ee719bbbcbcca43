-- An item that lookup finds.
use Rattle.reading.specs.declared.item.ItemData.{ItemData}
use Rattle.reading.specs.Part.{Span}

-- where the part that lookup hands back stands
abbrev pub data_span : ItemData → Span
data_span q = record { start = q.start; size = q.size }
