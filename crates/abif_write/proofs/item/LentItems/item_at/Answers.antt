use mathlib.Core.Path.{◌≡◌, ◌∙◌, refl, ap}
use lib.ListN.{get_or}
use lib.IntN.{pos}
use mir.Syntax.{w16, w32}
use mir.Val.{to_z, of_z}
use borrow.Author.Rules.{rules}
use Rattle.reading.proofs.Bits.{of_bits}
use Rattle.abif_write.specs.Item.{item_at}
use Rattle.abif_write.proofs.item.LentItems.item_at.Goals as goal

pub returns : goal.returns
unfolding item_at
returns c =
    let s = c.args.self.now in
    let i = c.args.i in
    let z = get_or s.numbers.now i (pos 0) in
    let y = get_or s.types.now i (pos 0) in
    let kz : to_z w32 (of_z w32 z) ≡ z = search rules in
    let ky : to_z w16 (of_z w16 y) ≡ y = search rules in
    let e = c.cast_unsigned.ensures ∙ ap (of_z w16) ky ∙ of_bits w16 2 refl y in
    λ j. record {
      name = get_or s.names.now i 0;
      number = kz j;
      element_type = e j;
      count = get_or s.counts.now i 0;
      start = get_or s.starts.now i 0;
      size = get_or s.lengths.now i 0;
    }
