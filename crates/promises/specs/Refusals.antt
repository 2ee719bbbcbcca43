-- Document 01's table of refusals.
use Rattle.std.specs.Prelude.{ℕ, List, [], ◌∷◌}

abbrev pub refusals : List ℕ
refusals =
    -- cut short: a byte the rule needs lies at or past the end
    1
    -- opening mark of another kind
    ∷ 2
    -- version not handled
    ∷ 3
    -- header fields contradict the format
    ∷ 4
    -- more than 999 entries
    ∷ 5
    -- negative offset, or offset below the lowest allowed
    ∷ 6
    -- no such tag, id or read
    ∷ 7
    -- tag or id stands twice
    ∷ 8
    -- sizes or counts contradict each other
    ∷ 9
    -- type or id not handled by this call
    ∷ 10
    -- a value the format forbids
    ∷ 11
    -- no such element
    ∷ 12
    -- lent output too small
    ∷ 13
    -- items not strictly ascending
    ∷ 14
    ∷ []
