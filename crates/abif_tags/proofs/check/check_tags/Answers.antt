use mathlib.Core.Path.{sym, ◌∙◌, ap}
use mathlib.Core.List.{List}
use native.Mathlib.Omega.{arith}
use lib.ListN.{length, length-take}
use Rattle.std.proofs.lemmas.Result.{err_from_is_err_and}
use Rattle.reading.specs.Check.{Answer, map_answer}
use Rattle.reading.specs.Lent.{filled}
use Rattle.reading.proofs.Tail.{tail_ok, tail_refused}
use Rattle.abif.specs.Judge.{extent_of}
use Rattle.abif.proofs.directory.Laws.{directory_lies, opened_at, after_refused, after_opened}
use Rattle.abif_tags.specs.Report.{Finding, finding_numbers, reporting}
use Rattle.abif_tags.proofs.check.Laws.{judged_refused, other_profile, known_profile}
use Rattle.abif_tags.proofs.check.check_tags.Goals as goal

pub returns-in_err-judge : goal.returns-in_err-judge
returns-in_err-judge c =
    let g = c.args in
    let p = err_from_is_err_and c.from_residual.result c.from_residual.ensures.1 in
    let w = judged_refused g.profile (length g.out.now) g.s.now _ _ (tail_refused extent_of (length g.s.now) _ _ _ (sym c.in_err-judge.ensures)) in
    record {
      result_value = rw (p.1, p.2) (ap (map_answer length) w);
      out_after = ap (λ (x : Answer (List Finding)). filled (map_answer finding_numbers x) g.out.now) w;
    }

pub returns-in_err-profile : goal.returns-in_err-profile
returns-in_err-profile c =
    let g = c.args in
    let p = err_from_is_err_and c.from_residual-in_err-profile.result c.from_residual-in_err-profile.ensures.1 in
    let e = c.in_err-profile.ensures in
    let w = other_profile g.profile (length g.out.now) g.s.now _ (tail_ok extent_of (length g.s.now) _ _ _ (sym c.in_ok-judge.ensures)).0 e.1 in
    record {
      result_value = rw (p.1, p.2, e.0) (ap (map_answer length) w);
      out_after = ap (λ (x : Answer (List Finding)). filled (map_answer finding_numbers x) g.out.now) w;
    }

pub returns-in_err-place : goal.returns-in_err-place
returns-in_err-place c =
    let g = c.args in
    let q = c.in_ok-profile.profile in
    let p = err_from_is_err_and c.from_residual-in_err-place.result c.from_residual-in_err-place.ensures.1 in
    let k = known_profile g.profile (length g.out.now) g.s.now _ (tail_ok extent_of (length g.s.now) _ _ _ (sym c.in_ok-judge.ensures)).0 q.number c.in_ok-profile.ensures q.from_one q.to_eight in
    let w = after_refused (reporting q.number (length g.out.now)) g.s.now _ (sym c.in_err-place.ensures) ∙ k in
    record {
      result_value = rw (p.1, p.2) (ap (map_answer length) w);
      out_after = ap (λ (x : Answer (List Finding)). filled (map_answer finding_numbers x) g.out.now) w;
    }

pub slice_bounds-check_entries-end : goal.slice_bounds-check_entries-end
slice_bounds-check_entries-end c =
    let w = opened_at c.args.s.now _ _ (sym c.in_ok-place.ensures) in
    simp length-take (omega arith)

pub check_entries-requires : goal.check_entries-requires
check_entries-requires c =
    let w = opened_at c.args.s.now _ _ (sym c.in_ok-place.ensures) in
    (directory_lies c.args.s.now _ w.1).few

pub returns : goal.returns
returns c =
    let g = c.args in
    let q = c.in_ok-profile.profile in
    let k = known_profile g.profile (length g.out.now) g.s.now _ (tail_ok extent_of (length g.s.now) _ _ _ (sym c.in_ok-judge.ensures)).0 q.number c.in_ok-profile.ensures q.from_one q.to_eight in
    let w = after_opened (reporting q.number (length g.out.now)) g.s.now _ _ (sym c.in_ok-place.ensures) ∙ k in
    let e = c.check_entries.ensures in
    record {
      result_value = e.result_value g.s.now ∙ ap (map_answer length) w;
      out_after = e.out_after g.s.now ∙ ap (λ (x : Answer (List Finding)). filled (map_answer finding_numbers x) g.out.now) w;
    }
