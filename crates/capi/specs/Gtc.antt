-- The struct that each answer of a GTC call is for a C program.
use Rattle.std.specs.Prelude.{ℕ, pos}
use Rattle.reading.specs.Check.{Answer, ok, refused}
use Rattle.gtc_records.specs.declared.snp.Snp as snp
use Rattle.gtc_records.specs.declared.transformation.Transformation.{Transformation}
use Rattle.gtc.specs.Judge.{Extent}
use Rattle.gtc_records.specs.Genotype.{ploidy, b_alleles}
use Rattle.gtc_records.specs.declared.transformation.Transformed.{Transformed}
use Rattle.capi.specs.declared.answers.Verdict.{Verdict}
use Rattle.capi.specs.declared.answers.Snp.{Snp}
use Rattle.capi.specs.declared.answers.TransformationAnswer.{TransformationAnswer}
use Rattle.capi.specs.Answers.{zero32}

-- judging's extent, the number of entries that are not judged, and the tail
abbrev pub as_judged : Answer (Extent × ℕ) → Verdict
as_judged (ok v) = record { refusal = 0; entry = 0; extent = v.0.extent; unjudged = v.0.unjudged; tail = v.1 }
as_judged (refused n e) = record { refusal = n; entry = e; extent = 0; unjudged = 0; tail = 0 }

-- a SNP's record
abbrev pub snp_struct : snp.Snp → Snp
snp_struct r =
    record {
      refusal = 0;
      code = r.code;
      ploidy = ploidy r.genotype;
      b_alleles = b_alleles r.genotype;
      call_1 = r.call_1;
      call_2 = r.call_2;
      score_bits = r.score_bits;
      x = r.x;
      y = r.y;
    }

abbrev pub refused_snp : ℕ → Snp
refused_snp n = record { refusal = n; code = 0; ploidy = 0; b_alleles = 0; call_1 = 0; call_2 = 0; score_bits = 0; x = 0; y = 0 }

abbrev pub as_snp : Answer snp.Snp → Snp
as_snp (ok r) = snp_struct r
as_snp (refused n e) = refused_snp n

-- the transformation of a refusal
abbrev pub no_transformation : Transformation
no_transformation =
    record {
      version = pos 0;
      offset_x = zero32;
      offset_y = zero32;
      scale_x = zero32;
      scale_y = zero32;
      shear = zero32;
      theta = zero32;
      reserved_1 = zero32;
      reserved_2 = zero32;
      reserved_3 = zero32;
      reserved_4 = zero32;
      reserved_5 = zero32;
      reserved_6 = zero32;
    }

abbrev pub as_transformation : Answer Transformed → TransformationAnswer
as_transformation (ok t) = record { refusal = 0; start = t.start; value = t.value }
as_transformation (refused n e) = record { refusal = n; start = 0; value = no_transformation }
