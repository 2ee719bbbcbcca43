-- The numbers of the refusals in document 01's table.
use Rattle.std.specs.Prelude.{ℕ, List, decimal}
use Rattle.reading.specs.declared.refusal.Refusal.{Refusal}
use Rattle.reading.specs.declared.refusal.Refusal.TheVariants.{CutShort, OtherMark, OtherVersion, BadHeader, TooManyEntries, BadOffset, NotThere, StandsTwice, BadSize, OtherType, Forbidden, NoSuchElement, NoRoom, NotAscending}

abbrev pub number : Refusal → ℕ
number CutShort = 1
number OtherMark = 2
number OtherVersion = 3
number BadHeader = 4
number TooManyEntries = 5
number BadOffset = 6
number NotThere = 7
number StandsTwice = 8
number BadSize = 9
number OtherType = 10
number Forbidden = 11
number NoSuchElement = 12
number NoRoom = 13
number NotAscending = 14

-- as a line tells it: the digits of its number
abbrev pub number_text : Refusal → List ℕ
number_text r = decimal (number r)
