-- What the results of the code stand for: answers of document 01.
use Rattle.std.specs.Prelude.{Result, Ok, Err}
use Rattle.reading.specs.declared.refusal.Refusal.{Refusal}
use Rattle.reading.specs.Check.{Answer, ok, refused}
use Rattle.reading.specs.Refusal.{number}
use Rattle.abif_elements.specs.declared.element.Element.{Element}
use Rattle.abif_elements.specs.declared.element.Element.TheVariants as element
use Rattle.abif_elements.specs.Element.{Value, whole, single, double, date, time, bool, thumb}

-- an element
abbrev pub value_of : Element → Value
value_of (element.Whole z) = whole z
value_of (element.Single f n) = single f n
value_of (element.Double f n) = double f n
value_of (element.Date y m d) = date y m d
value_of (element.Time h m s c) = time h m s c
value_of (element.Bool b) = bool b
value_of (element.Thumb d u c n) = thumb d u c n

abbrev pub answer_of_element : Result Element Refusal → Answer Value
answer_of_element (Ok e) = ok (value_of e)
answer_of_element (Err r) = refused (number r) 0
