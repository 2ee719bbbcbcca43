use mir.Syntax.{w32}
use mathlib.Core.Path.{refl, ◌∙◌, ap}
use Rattle.reading.specs.Number.{signed}
use Rattle.reading.proofs.Signs.{cast_is}
use Rattle.gtc_records.specs.Transformation.{transformation_at}
use Rattle.gtc_records.proofs.transformation.transformation_at.Goals as goal

pub returns : goal.returns
unfolding transformation_at
returns c =
    λ i. record {
      version = (cast_is w32 4 _ _ refl refl c.le32.type_inv c.cast_signed.ensures ∙ ap (signed 4) c.le32.ensures) i;
      offset_x = c.float_at.ensures i;
      offset_y = c.float_at-2.ensures i;
      scale_x = c.float_at-3.ensures i;
      scale_y = c.float_at-4.ensures i;
      shear = c.float_at-5.ensures i;
      theta = c.float_at-6.ensures i;
      reserved_1 = c.float_at-7.ensures i;
      reserved_2 = c.float_at-8.ensures i;
      reserved_3 = c.float_at-9.ensures i;
      reserved_4 = c.float_at-10.ensures i;
      reserved_5 = c.float_at-11.ensures i;
      reserved_6 = c.float_at-12.ensures i;
    }
