use Prim.Native.Nat.{◌<◌}
use mathlib.Core.Path.{◌≡◌, sym, ◌∙◌, ap}
use native.Mathlib.Omega.{arith}
use Rattle.std.specs.Prelude.{unwrap_or}
use Rattle.std.proofs.lemmas.Grind.{common_steps}
use Rattle.reading.specs.declared.check.Test as code
use Rattle.reading.specs.declared.refusal.Refusal.{Refusal}
use Rattle.reading.specs.Check.{passed, failed}
use Rattle.reading.specs.Answers.{test_of}
use Rattle.reading.proofs.Steps.{run_done}
use Rattle.reading.proofs.Passed.{bind_failed, bind_passed}
use Rattle.reading.proofs.Entries.{first_all, one_none, one_twice, one_found}
use Rattle.gtc.specs.Entry.{has_id, entry_with}
use Rattle.gtc.proofs.table.Table.entry_with.Goals as goal

pub returns-in_default : goal.returns-in_default
unfolding entry_with
returns-in_default c l =
    let g = c.args in
    let t = has_id g.self.up_to.now g.id in
    let i = c.in_default.ensures.first ∙ first_all t g.self.count in
    ap (λ (t : code.Test Refusal). failed (test_of t) 0) c.failing.ensures ∙ bind_failed _ _ l _ 0 (one_none t g.self.count _ i l (omega arith))

pub returns-then-is_some : goal.returns-then-is_some
unfolding entry_with
returns-then-is_some c l =
    let g = c.args in
    let t = has_id g.self.up_to.now g.id in
    let i = c.in-Some.ensures.first ∙ first_all t g.self.count in
    let again : unwrap_or c.first_id-2.result g.self.count < g.self.count = grind (arith, common_steps) in
    ap (λ (t : code.Test Refusal). failed (test_of t) 0) c.failing-then-is_some.ensures ∙ bind_failed _ _ l _ 0 (one_twice t g.self.count _ i l c.in-Some.ensures.within _ c.first_id-2.ensures.first (omega arith))

pub returns : goal.returns
unfolding entry_with
returns c l =
    let g = c.args in
    let t = has_id g.self.up_to.now g.id in
    let i = c.in-Some.ensures.first ∙ first_all t g.self.count in
    let end : unwrap_or c.first_id-2.result g.self.count ≡ g.self.count = grind (arith, common_steps) in
    ap passed c.entry_at.ensures ∙ sym (run_done _ l) ∙ bind_passed _ _ l _ (one_found t g.self.count _ i l c.in-Some.ensures.within _ c.first_id-2.ensures.first end)
