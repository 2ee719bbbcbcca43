use mathlib.Core.Path.{◌≡◌, ◌∙◌, refl, ap}
use mir.Syntax.{w32}
use mir.Val.{to_z, of_z}
use borrow.Author.Rules.{rules}
use Rattle.reading.proofs.Bits.{of_bits}
use Rattle.abif_write.specs.Entry.{entry_for}
use Rattle.abif_write.proofs.entry.entry_for.Goals as goal

pub returns : goal.returns
unfolding entry_for
returns c =
    let g = c.args in
    let z = g.d.number in
    let kz : to_z w32 (of_z w32 z) ≡ z = search rules in
    let n = c.cast_unsigned.ensures ∙ ap (of_z w32) kz ∙ of_bits w32 4 refl z in
    λ i. record {
      place = g.place;
      name = g.d.name;
      number = n i;
      element_type = g.d.element_type;
      element_size = c.written_size.ensures i;
      element_count = g.d.count;
      data_size = g.d.size;
      data_offset = c.offset_field.ensures i;
    }
