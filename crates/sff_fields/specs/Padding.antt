-- SFF: lengths rounded up to a multiple of 8.
use Rattle.std.specs.Prelude.{ℕ, ◌+◌, ◌-◌, ◌%◌}

-- how many bytes stand between n bytes and the next multiple of 8
unfoldable pub padding : ℕ → ℕ
padding n = (8 - n % 8) % 8

-- n rounded up to 8
unfoldable pub padded : ℕ → ℕ
padded n = n + padding n
