use Prim.Native.Nat.{◌+◌, ◌-◌, ◌*◌}
use mathlib.Core.Path.{refl, ◌∙◌, ap}
use native.Mathlib.Omega.{arith}
use mir.Syntax.{w16, w32}
use Rattle.reading.specs.Number.{signed}
use Rattle.reading.proofs.Signs.{cast_is}
use Rattle.abif.specs.Entry.{entry_of}
use Rattle.abif_file.specs.Entry.{raw_entry}
use Rattle.abif_file.proofs.entry.Laws.{raw_part}
use Rattle.abif_file.proofs.entry.raw_entry.Goals as goal

pub returns : goal.returns
unfolding raw_entry entry_of
returns c =
    let g = c.args in
    let p = g.place + 28 * g.i in
    (λ i. record {
      name = c.be32.ensures i;
      number = (cast_is w32 4 c.be32-2.result _ refl refl (omega arith) c.cast_signed.ensures ∙ ap (signed 4) c.be32-2.ensures) i;
      element_type = (cast_is w16 2 c.be16.result _ refl refl (omega arith) c.cast_signed-2.ensures ∙ ap (signed 2) c.be16.ensures) i;
      element_size = (cast_is w16 2 c.be16-2.result _ refl refl (omega arith) c.cast_signed-3.ensures ∙ ap (signed 2) c.be16-2.ensures) i;
      element_count = (cast_is w32 4 c.be32-3.result _ refl refl (omega arith) c.cast_signed-4.ensures ∙ ap (signed 4) c.be32-3.ensures) i;
      data_size = (cast_is w32 4 c.be32-4.result _ refl refl (omega arith) c.cast_signed-5.ensures ∙ ap (signed 4) c.be32-4.ensures) i;
      data_offset = (cast_is w32 4 c.be32-5.result _ refl refl (omega arith) c.cast_signed-6.ensures ∙ ap (signed 4) c.be32-5.ensures) i;
      data_handle = (cast_is w32 4 c.be32-6.result _ refl refl (omega arith) c.cast_signed-7.ensures ∙ ap (signed 4) c.be32-6.ensures) i;
    }) ∙ raw_part g.h.now p (p + 28 - p) (omega arith)
