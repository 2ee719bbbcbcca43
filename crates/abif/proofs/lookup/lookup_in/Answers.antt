use Prim.Native.Nat.{◌<◌}
use mathlib.Core.Path.{◌∙◌, sym, ap}
use native.Mathlib.Omega.{arith}
use Rattle.std.specs.Prelude.{unwrap_or}
use Rattle.std.proofs.lemmas.Result.{err_from_is_err_and}
use Rattle.reading.specs.Check.{answer_of_outcome, answer}
use Rattle.reading.proofs.Cut.{answer_plain}
use Rattle.reading.proofs.Passed.{bind_refused, bind_answered}
use Rattle.reading.proofs.Entries.{first_all, one_none, one_twice, one_found}
use Rattle.abif.specs.declared.entry.Entry.{Entry}
use Rattle.abif.specs.Entry.{has_tag}
use Rattle.abif.specs.Lookup.{item_of, lookup_in}
use Rattle.abif.proofs.lookup.Laws.{missing, some_below, none_is}
use Rattle.abif.proofs.lookup.lookup_in.Goals as goal

pub returns-in_err-i : goal.returns-in_err-i
unfolding lookup_in
returns-in_err-i c =
    let g = c.args in
    let t = has_tag g.entries.bytes.now g.entries.place g.name g.number in
    let p = err_from_is_err_and c.from_residual.result c.from_residual.ensures.1 in
    let m = missing c.first_tag.result _ _ c.in_err-i.ensures.value in
    let none = rw m.0 at c.first_tag.ensures.first in
    rw (p.1, p.2, m.1) (bind_refused _ _ g.s.now _ 0 (answer_plain _ g.s.now ∙ ap answer_of_outcome (one_none t g.entries.count _ (none ∙ first_all t g.entries.count) g.s.now (omega arith))))

pub returns-then-is_some : goal.returns-then-is_some
unfolding lookup_in
returns-then-is_some c =
    let g = c.args in
    let t = has_tag g.entries.bytes.now g.entries.place g.name g.number in
    let here = rw c.in_ok-i.ensures.ok_part at c.first_tag.ensures.first in
    let within = rw c.in_ok-i.ensures.ok_part at c.first_tag.ensures.within in
    let again : unwrap_or c.first_tag-2.result g.entries.count < g.entries.count = some_below _ g.entries.count (sym c.is_some.ensures ∙ c.if-is_some.true) c.first_tag-2.ensures.within in
    bind_refused _ _ g.s.now _ 0 (answer_plain _ g.s.now ∙ ap answer_of_outcome (one_twice t g.entries.count _ (here ∙ first_all t g.entries.count) g.s.now (omega arith) _ c.first_tag-2.ensures.first (omega arith)))

pub returns : goal.returns
unfolding lookup_in
returns c =
    let g = c.args in
    let t = has_tag g.entries.bytes.now g.entries.place g.name g.number in
    let here = rw c.in_ok-i.ensures.ok_part at c.first_tag.ensures.first in
    let within = rw c.in_ok-i.ensures.ok_part at c.first_tag.ensures.within in
    let end = none_is c.first_tag-2.result g.entries.count (sym c.is_some.ensures ∙ c.if-is_some.false) in
    c.item_of.ensures ∙ ap (λ (d : Entry). answer (item_of d) g.s.now) c.at.ensures ∙ bind_answered _ _ g.s.now _ (answer_plain _ g.s.now ∙ ap answer_of_outcome (one_found t g.entries.count _ (here ∙ first_all t g.entries.count) g.s.now (omega arith) _ c.first_tag-2.ensures.first end))
