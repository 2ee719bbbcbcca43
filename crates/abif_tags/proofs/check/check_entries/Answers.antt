use mathlib.Core.Path.{◌≡◌, ◌∙◌, ap}
use mathlib.Core.List.{List, map}
use Prim.Native.Nat.{ℕ}
use lib.ListN.{length}
use borrow.Author.Rules.{rules}
use Rattle.reading.specs.Check.{Answer, map_answer}
use Rattle.reading.specs.Lent.{filled}
use Rattle.abif_tags.specs.Order.{in_tag_order}
use Rattle.abif_tags.specs.Report.{Finding, finding_numbers}
use Rattle.abif_tags.specs.Private.{tagged}
use Rattle.abif_tags.proofs.order.Laws.{tags_told}
use Rattle.abif_tags.proofs.check.Laws.{no_room, counted, all_put}
use Rattle.abif_tags.proofs.check.check_entries.Goals as goal

pub invariant_of-report : goal.invariant_of-report
invariant_of-report c = record { tags_told = tags_told c.args.bytes.now c.args.place _ c.sort.new.order c.sort.ensures }

pub returns-then-out-m : goal.returns-then-out-m
returns-then-out-m c =
    let g = c.args in
    let n : length c.sort.new.order ≡ g.count = search rules in
    let sorted : c.sort.new.order ≡ map (tagged g.bytes.now g.place) (in_tag_order g.bytes.now g.place g.count) = c.sort.ensures ∙ ap (λ (k : ℕ). map (tagged g.bytes.now g.place) (in_tag_order g.bytes.now g.place k)) n in
    let w = no_room g.profile.number g.bytes.now g.place g.count _ sorted _ c.tell-m.ensures.value (length g.out.now) c.if-out-m.true in
    record {
      result_value = λ l. ap (map_answer length) (w l);
      out_after = λ l. ap (λ (x : Answer (List Finding)). filled (map_answer finding_numbers x) g.out.now) (w l);
    }

pub returns : goal.returns
returns c =
    let g = c.args in
    let t = c.tell-m.ensures in
    let n : length c.sort.new.order ≡ g.count = search rules in
    let sorted : c.sort.new.order ≡ map (tagged g.bytes.now g.place) (in_tag_order g.bytes.now g.place g.count) = c.sort.ensures ∙ ap (λ (k : ℕ). map (tagged g.bytes.now g.place) (in_tag_order g.bytes.now g.place k)) n in
    record {
      result_value = counted g.profile.number g.bytes.now g.place g.count _ sorted _ t.value (length g.out.now) c.if-out-m.false;
      out_after = λ l. c.put_all.ensures ∙ all_put g.profile.number g.bytes.now g.place g.count _ sorted _ t.value (length g.out.now) c.if-out-m.false _ t.out_after.1 g.out.now l;
    }
