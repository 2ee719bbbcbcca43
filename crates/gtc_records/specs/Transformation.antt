-- GTC: the normalization transformations.
use Rattle.std.specs.Prelude.{ℕ, ◌+◌, ◌-◌, ◌*◌, List, Float}
use Rattle.std.specs.Float.{binary32}
use Rattle.std.specs.Float.Ieee.{of_bits}
use Rattle.reading.specs.Choice.{is_number_of}
use Rattle.reading.specs.Number.{le, signed}
use Rattle.reading.specs.Check.{Check, done, need, provided, ◌>>=◌, ◌>>◌}
use Rattle.reading.specs.declared.part.Span.{Span}
use Rattle.reading.specs.declared.item.ItemData.{ItemData}
use Rattle.gtc.specs.Item.{normalization_transformations_id, item_end}
use Rattle.gtc_records.specs.declared.transformation.Transformation.{Transformation}
use Rattle.gtc_records.specs.declared.transformation.Transformed.{Transformed}
use Rattle.gtc.specs.Lookup.{looking_up}

-- a transformation is a version and twelve floats
abbrev pub transformation_size : ℕ
transformation_size = 52

abbrev pub float_at : List ℕ → ℕ → Float
float_at bytes place = of_bits binary32 (le 4 bytes place)

-- the one at this place
unfoldable pub transformation_at : List ℕ → ℕ → Transformation
transformation_at bytes place =
    record {
      version = signed 4 (le 4 bytes place);
      offset_x = float_at bytes (place + 4);
      offset_y = float_at bytes (place + 8);
      scale_x = float_at bytes (place + 12);
      scale_y = float_at bytes (place + 16);
      shear = float_at bytes (place + 20);
      theta = float_at bytes (place + 24);
      reserved_1 = float_at bytes (place + 28);
      reserved_2 = float_at bytes (place + 32);
      reserved_3 = float_at bytes (place + 36);
      reserved_4 = float_at bytes (place + 40);
      reserved_5 = float_at bytes (place + 44);
      reserved_6 = float_at bytes (place + 48);
    }

-- where number k, from one, of the array starts
abbrev pub transformation_place : ItemData → ℕ → ℕ
transformation_place item k = item.start + transformation_size * (k - 1)

-- number k of the array: k = 0 or over the count 12
unfoldable pub transformation_of : ItemData → ℕ → Check Transformed
transformation_of item k = do
  provided (is_number_of k item.count) 12
  bytes ← need item.start (item_end item)
  done (record { start = transformation_place item k; value = transformation_at bytes (transformation_place item k) })

unfoldable pub transformation_reading : ℕ → Check Transformed
transformation_reading k = do
  item ← looking_up normalization_transformations_id
  transformation_of item k

-- its bytes
abbrev pub transformation_span : Transformed → Span
transformation_span transformed = record { start = transformed.start; size = transformation_size }
