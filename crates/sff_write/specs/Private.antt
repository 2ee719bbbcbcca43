-- What private functions ask of their callers. No public call's contract cites this.
use Rattle.std.specs.Prelude.{ℕ, ◌≤◌, ◌≡◌, length}
use Rattle.sff_write.specs.declared.read.Clips.{Clips}
use Rattle.sff_write.specs.Read.{GivenRead, read_header_size}

-- the clips fit their fields
abbrev pub FittingClips : Clips → Type 0
FittingClips clips = (clips.quality_left ≤ 65535) × (clips.quality_right ≤ 65535) × (clips.adapter_left ≤ 65535) × (clips.adapter_right ≤ 65535)

-- the lengths of a read fit their fields and agree, in a file of so many flows
pub record Fitting (flows : ℕ) (read : GivenRead) : Type 0 where
  pub name_fits : read_header_size (length read.name) ≤ 65535
  pub flows_fit : flows ≤ 65535
  pub flows_agree : length read.flows ≡ flows
  pub steps_agree : length read.steps ≡ length read.letters
  pub qualities_agree : length read.qualities ≡ length read.letters
  pub bases_fit : length read.letters ≤ 0xffffffff
  pub clips_fit : FittingClips read.clips
