-- The struct that each answer of an ABIF call is for a C program.
use Rattle.std.specs.Prelude.{ℕ, ℤ, pos, Float}
use Rattle.reading.specs.Choice.{pick}
use Rattle.reading.specs.Check.{Answer, ok, refused}
use Rattle.abif_elements.specs.Element.{Value, whole, single, double, date, time, bool, thumb}
use Rattle.capi.specs.declared.answers.Opened.{Opened}
use Rattle.capi.specs.declared.answers.Element.{Element}
use Rattle.capi.specs.Answers.{zero32, zero64}

-- the directory's place and count
abbrev pub as_opened : Answer (ℕ × ℕ) → Opened
as_opened (ok d) = record { refusal = 0; place = d.0; count = d.1 }
as_opened (refused n e) = record { refusal = n; place = 0; count = 0 }

-- an element of this kind that is a number
abbrev pub number_element : ℕ → ℤ → Element
number_element kind number =
    record {
      refusal = 0;
      kind = kind;
      whole = number;
      single = zero32;
      single_bits = 0;
      real = zero64;
      real_bits = 0;
      a = pos 0;
      b = pos 0;
      c = pos 0;
      d = pos 0;
    }

-- an element of this kind of up to four numbers
abbrev pub fields_element : ℕ → ℤ → ℤ → ℤ → ℤ → Element
fields_element kind a b c d =
    record {
      refusal = 0;
      kind = kind;
      whole = pos 0;
      single = zero32;
      single_bits = 0;
      real = zero64;
      real_bits = 0;
      a = a;
      b = b;
      c = c;
      d = d;
    }

-- a 32-bit float, with its bits
abbrev pub single_element : Float → ℕ → Element
single_element float bits =
    record {
      refusal = 0;
      kind = 2;
      whole = pos 0;
      single = float;
      single_bits = bits;
      real = zero64;
      real_bits = 0;
      a = pos 0;
      b = pos 0;
      c = pos 0;
      d = pos 0;
    }

-- a 64-bit float, with its bits
abbrev pub double_element : Float → ℕ → Element
double_element float bits =
    record {
      refusal = 0;
      kind = 3;
      whole = pos 0;
      single = zero32;
      single_bits = 0;
      real = float;
      real_bits = bits;
      a = pos 0;
      b = pos 0;
      c = pos 0;
      d = pos 0;
    }

abbrev pub refused_element : ℕ → Element
refused_element refusal =
    record {
      refusal = refusal;
      kind = 0;
      whole = pos 0;
      single = zero32;
      single_bits = 0;
      real = zero64;
      real_bits = 0;
      a = pos 0;
      b = pos 0;
      c = pos 0;
      d = pos 0;
    }

-- the kinds: 1 whole number, 2 and 3 floats, 4 date, 5 time, 6 bool, 7 thumb
abbrev pub as_element : Answer Value → Element
as_element (ok (whole z)) = number_element 1 z
as_element (ok (single f n)) = single_element f n
as_element (ok (double f n)) = double_element f n
as_element (ok (date y m d)) = fields_element 4 y (pos m) (pos d) (pos 0)
as_element (ok (time h m s c)) = fields_element 5 (pos h) (pos m) (pos s) (pos c)
as_element (ok (bool b)) = number_element 6 (pick b (pos 1) (pos 0))
as_element (ok (thumb d u c n)) = fields_element 7 d u (pos c) (pos n)
as_element (refused n e) = refused_element n
