-- GTC: normalising two intensities, by document 003's formulas in their order, each operation rounded once to 32 bits. The logic has one NaN, so a NaN result
-- is some NaN.
use Rattle.std.specs.Prelude.{ℕ, pos, Float}
use Rattle.std.specs.Float.{binary32}
use Rattle.std.specs.Float.Ieee.{add, sub, mul, div, neg, of_int}
use Rattle.gtc_records.specs.declared.transformation.Transformation.{Transformation}
use Rattle.gtc_records.specs.declared.normalise.Point.{Point}

-- with the cosine and sine of theta
abbrev pub normalised : Transformation → ℕ → ℕ → Float → Float → Point
normalised xform xraw yraw cos sin =
    let tempx = sub binary32 (of_int binary32 (pos xraw)) xform.offset_x in
    let tempy = sub binary32 (of_int binary32 (pos yraw)) xform.offset_y in
    let tempx2 = add binary32 (mul binary32 cos tempx) (mul binary32 sin tempy) in
    let tempy2 = add binary32 (mul binary32 (neg sin) tempx) (mul binary32 cos tempy) in
    let tempx3 = sub binary32 tempx2 (mul binary32 xform.shear tempy2) in
    let tempy3 = tempy2 in
    record { x = div binary32 tempx3 xform.scale_x; y = div binary32 tempy3 xform.scale_y }
