-- SFF: the checks of a read's contents, which the reader and the writer make.
use Rattle.std.specs.Prelude.{ℕ, List, length}
use Rattle.reading.specs.Check.{Check, ◌>>◌}
use Rattle.contents.specs.Steps.{steps_check}
use Rattle.sff_fields.specs.declared.read.ReadHeader.{ReadHeader}
use Rattle.sff_fields.specs.Clips.{clips_check}

-- a clip above the bases 11; the flow steps 11
unfoldable pub contents_check : ReadHeader → ℕ → List ℕ → Check (Unit {0})
contents_check read flows steps = do
  clips_check read
  steps_check flows steps 0 (length steps)
