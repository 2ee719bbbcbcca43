-- The struct that each answer of an SFF call is for a C program.
use Rattle.std.specs.Prelude.{ℕ, ◌+◌}
use Rattle.reading.specs.Check.{Answer, ok, refused}
use Rattle.sff_fields.specs.declared.position.FlowPosition.{FlowPosition}
use Rattle.sff_fields.specs.declared.header.Header.{Header}
use Rattle.sff_fields.specs.declared.parts.Read.{Read}
use Rattle.capi.specs.declared.answers.SffHeader.{SffHeader}
use Rattle.capi.specs.declared.answers.SffRead.{SffRead}
use Rattle.capi.specs.declared.answers.Flow.{Flow}

-- the flow letters start behind the fields, and the key behind the letters
abbrev pub as_header : Answer Header → SffHeader
as_header (ok d) =
    record {
      refusal = 0;
      index_offset = d.index_offset;
      index_length = d.index_length;
      reads = d.reads;
      header_length = d.header_length;
      key_length = d.key_length;
      flows = d.flows;
      flow_letters_start = 31;
      key_start = 31 + d.flows;
    }
as_header (refused n e) =
    record {
      refusal = n;
      index_offset = 0;
      index_length = 0;
      reads = 0;
      header_length = 0;
      key_length = 0;
      flows = 0;
      flow_letters_start = 0;
      key_start = 0;
    }

-- all that is answered of a read
abbrev pub read_struct : Read → SffRead
read_struct r =
    record {
      refusal = 0;
      start = r.start;
      name_start = r.name_start;
      name_length = r.name_length;
      bases = r.bases;
      quality_left = r.quality_left;
      quality_right = r.quality_right;
      adapter_left = r.adapter_left;
      adapter_right = r.adapter_right;
      flows_start = r.flows_start;
      steps_start = r.steps_start;
      letters_start = r.letters_start;
      qualities_start = r.qualities_start;
      first = r.first.0;
      last = r.last.0;
      insert_start = r.insert_start;
      insert_length = r.insert_length;
    }

abbrev pub refused_read : ℕ → SffRead
refused_read n =
    record {
      refusal = n;
      start = 0;
      name_start = 0;
      name_length = 0;
      bases = 0;
      quality_left = 0;
      quality_right = 0;
      adapter_left = 0;
      adapter_right = 0;
      flows_start = 0;
      steps_start = 0;
      letters_start = 0;
      qualities_start = 0;
      first = 0;
      last = 0;
      insert_start = 0;
      insert_length = 0;
    }

abbrev pub as_read : Answer Read → SffRead
as_read (ok r) = read_struct r
as_read (refused n e) = refused_read n

abbrev pub as_flow : Answer FlowPosition → Flow
as_flow (ok p) = record { refusal = 0; flow = p.0 }
as_flow (refused n e) = record { refusal = n; flow = 0 }
