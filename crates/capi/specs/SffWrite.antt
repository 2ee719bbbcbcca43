-- The struct that each answer of the SFF writer is for a C program.
use Rattle.std.specs.Prelude.{ℕ}
use Rattle.reading.specs.Check.{Answer, ok, refused}
use Rattle.sff_write.specs.declared.read.Clips.{Clips}
use Rattle.sff_write.specs.declared.write.Writer.{Writer}
use Rattle.capi.specs.declared.answers.SffWriter.{SffWriter}

-- the state that a struct holds, whatever its refusal
abbrev pub state_of : SffWriter → Writer
state_of w = record { reads = w.reads; written = w.written; flows = w.flows; at = w.at }

-- the struct of a state
abbrev pub writer_struct : Writer → SffWriter
writer_struct w = record { refusal = 0; reads = w.reads; written = w.written; flows = w.flows; at = w.at }

abbrev pub as_writer : Answer Writer → SffWriter
as_writer (ok w) = writer_struct w
as_writer (refused n e) = record { refusal = n; reads = 0; written = 0; flows = 0; at = 0 }

-- the state behind a read; refused, the state w that was given
abbrev pub as_added : SffWriter → Answer Writer → SffWriter
as_added w (ok v) = writer_struct v
as_added w (refused n e) = record { refusal = n; reads = w.reads; written = w.written; flows = w.flows; at = w.at }

-- the four clips of a read
abbrev pub clips_of : ℕ → ℕ → ℕ → ℕ → Clips
clips_of quality_left quality_right adapter_left adapter_right =
    record {
      quality_left = quality_left;
      quality_right = quality_right;
      adapter_left = adapter_left;
      adapter_right = adapter_right;
    }
