use mathlib.Core.List.{[]}
use native.Mathlib.Omega.{arith}
use lib.ListN.{length}
use Prim.Native.Nat.{◌+◌}
use Rattle.reading.specs.Check.{answer}
use Rattle.sff_fields.proofs.padding.Laws.{padded_bounds}
use Rattle.sff_write.specs.Read.{read_of}
use Rattle.sff_write.specs.Write.{adding_fit}
use Rattle.sff_write.proofs.write.Laws.{told_refused, fit_answer, fit_size, fit_length, fit_contents, fit_room, fit_written}
use Rattle.sff_write.proofs.write.add_fitting.Goals as goal

pub returns-then-not-contents_hold : goal.returns-then-not-contents_hold
returns-then-not-contents_hold c =
    let g = c.args in
    let r = read_of g.read.now in
    let q = fit_answer g.w.flows g.w.at r c.requires.fitting _ c.header_at-d.ensures c.contents_hold.result (c.contents_hold.ensures []) in
    let t = told_refused (answer (adding_fit g.w r (length g.out.now)) []) g.w.at g.out.now 11 (fit_contents g.w r _ _ q c.if-not-contents_hold.true) in
    record { result_value = t.0; out_after = t.1 }

pub returns-then-out-size : goal.returns-then-out-size
returns-then-out-size c =
    let g = c.args in
    let r = read_of g.read.now in
    let e = c.header_at-d.ensures in
    let q = fit_answer g.w.flows g.w.at r c.requires.fitting _ e c.contents_hold.result (c.contents_hold.ensures []) in
    let s = fit_size g.w.flows g.w.at r c.requires.fitting _ e _ c.padding_behind.ensures.0 in
    let t = told_refused (answer (adding_fit g.w r (length g.out.now)) []) g.w.at g.out.now 13 (fit_room g.w r _ _ q c.if-not-contents_hold.false (omega arith)) in
    record { result_value = t.0; out_after = t.1 }

pub put-requires-clause-lengths_fit : goal.put-requires-clause-lengths_fit
put-requires-clause-lengths_fit c =
    let k = c.requires.fitting in
    let n = padded_bounds (16 + length c.args.read.now.name.now) in
    (omega arith, omega arith, k.bases_fit, k.steps_agree, k.qualities_agree)

pub put-requires-clause-has_room : goal.put-requires-clause-has_room
put-requires-clause-has_room c =
    let g = c.args in
    let r = read_of g.read.now in
    let e = c.header_at-d.ensures in
    let s = fit_size g.w.flows g.w.at r c.requires.fitting _ e _ c.padding_behind.ensures.0 in
    fit_length g.w.flows g.w.at r c.requires.fitting _ e _ _ s (omega arith)

pub returns : goal.returns
returns c =
    let g = c.args in
    let r = read_of g.read.now in
    let e = c.header_at-d.ensures in
    let q = fit_answer g.w.flows g.w.at r c.requires.fitting _ e c.contents_hold.result (c.contents_hold.ensures []) in
    let s = fit_size g.w.flows g.w.at r c.requires.fitting _ e _ c.padding_behind.ensures.0 in
    let t = fit_written g.w r g.out.now c.put.new.out _ _ _ q c.if-not-contents_hold.false e s (omega arith) c.put.ensures in
    record { result_value = t.0; out_after = t.1 }
