-- SFF: all that is answered of a read, and where its parts stand.
use Rattle.std.specs.Prelude.{ℕ, ◌+◌, ◌*◌, List, [], ◌∷◌}
use Rattle.reading.specs.declared.part.Span.{Span}
use Rattle.sff_fields.specs.declared.read.ReadHeader.{ReadHeader}
use Rattle.sff_fields.specs.declared.parts.Read.{Read}
use Rattle.sff_fields.specs.declared.parts.ReadPart.{ReadPart}
use Rattle.sff_fields.specs.declared.parts.ReadPart.TheVariants.{Name, Flows, Steps, Letters, Qualities, Insert}
use Rattle.sff_fields.specs.Read.{read_front_length, flows_start, steps_start, letters_start, qualities_start}
use Rattle.sff_fields.specs.Clips.{first_base, last_base, insert}

-- all that is answered of a read with these header fields, in a file of so many flows
unfoldable pub read_of : ℕ → ReadHeader → Read
read_of flows read =
    record {
      start = read.start;
      name_start = read.start + read_front_length;
      name_length = read.name_length;
      flows = flows;
      bases = read.bases;
      quality_left = read.quality_left;
      quality_right = read.quality_right;
      adapter_left = read.adapter_left;
      adapter_right = read.adapter_right;
      flows_start = flows_start read;
      steps_start = steps_start flows read;
      letters_start = letters_start flows read;
      qualities_start = qualities_start flows read;
      first = record { 0 = first_base read };
      last = record { 0 = last_base read };
      insert_start = (insert flows read).start;
      insert_length = (insert flows read).size;
    }

-- where each part of a read stands
abbrev pub span_of : ReadPart → Read → Span
span_of Name read = record { start = read.name_start; size = read.name_length }
span_of Flows read = record { start = read.flows_start; size = 2 * read.flows }
span_of Steps read = record { start = read.steps_start; size = read.bases }
span_of Letters read = record { start = read.letters_start; size = read.bases }
span_of Qualities read = record { start = read.qualities_start; size = read.bases }
span_of Insert read = record { start = read.insert_start; size = read.insert_length }

-- the record of a read in a lent list: 17 numbers, its refusal's and these
abbrev pub record_width : ℕ
record_width = 17

abbrev pub read_numbers : Read → List ℕ
read_numbers read =
    read.start ∷ read.name_start ∷ read.name_length ∷ read.bases
    ∷ read.quality_left ∷ read.quality_right ∷ read.adapter_left ∷ read.adapter_right
    ∷ read.flows_start ∷ read.steps_start ∷ read.letters_start ∷ read.qualities_start
    ∷ read.first.0 ∷ read.last.0 ∷ read.insert_start ∷ read.insert_length ∷ []
