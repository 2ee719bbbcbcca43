use Prim.Native.Nat.{◌+◌}
use mathlib.Core.Path.{◌∙◌}
use Rattle.sff_fields.specs.Read.{flows_start, steps_start, letters_start, qualities_start}
use Rattle.sff_fields.specs.Parts.{read_of}
use Rattle.sff.proofs.lookup.Laws.{insert_of}
use Rattle.sff.proofs.lookup.read_of.Goals as goal

pub returns : goal.returns
unfolding read_of
returns c =
    let g = c.args in
    let d = g.d in
    let q = c.insert_from-insert.ensures ∙ insert_of g.flows d _ _ c.first_base-first.ensures c.last_base-last.ensures in
    λ i. record {
      start = d.start;
      name_start = d.start + 16;
      name_length = d.name_length;
      flows = g.flows;
      bases = d.bases;
      quality_left = d.quality_left;
      quality_right = d.quality_right;
      adapter_left = d.adapter_left;
      adapter_right = d.adapter_right;
      flows_start = flows_start d;
      steps_start = steps_start g.flows d;
      letters_start = letters_start g.flows d;
      qualities_start = qualities_start g.flows d;
      first = record { 0 = c.first_base-first.ensures i };
      last = record { 0 = c.last_base-last.ensures i };
      insert_start = (q i).start;
      insert_length = (q i).size;
    }
