-- The number that stands for what is told of a tag.
use Rattle.std.specs.Prelude.{ℕ}
use Rattle.abif_tags.specs.declared.finding.Kind.{Kind}
use Rattle.abif_tags.specs.declared.finding.Kind.TheVariants.{Missing, OtherType, NotInProfile}

abbrev pub kind_number : Kind → ℕ
kind_number Missing = 1
kind_number OtherType = 2
kind_number NotInProfile = 3
