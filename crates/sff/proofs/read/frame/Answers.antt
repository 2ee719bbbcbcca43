use Rattle.std.proofs.lemmas.Result.{err_from_is_err_and}
use Rattle.sff.proofs.read.Laws.{frame_short, frame_bad, frame_header, frame_data, frame_end}
use borrow.Author.Rules.{rules}
use Rattle.sff.proofs.read.frame.Goals as goal

pub returns-then-s-fixed : goal.returns-then-s-fixed
returns-then-s-fixed c = frame_short _ _ _ (search rules)

pub returns-in_err-read_length_tests : goal.returns-in_err-read_length_tests
returns-in_err-read_length_tests c =
    let g = c.args in
    let p = err_from_is_err_and c.from_residual.result c.from_residual.ensures.1 in
    rw (p.1, p.2) (frame_bad g.flows g.p g.s.now c.if-s-fixed.false _ _ _ c.be16-stated.ensures c.be16-name.ensures c.be32-bases.ensures _ (c.in_err-read_length_tests.ensures g.s.now))

pub returns-then-s-start : goal.returns-then-s-start
returns-then-s-start c =
    let g = c.args in
    frame_header g.flows g.p g.s.now c.if-s-fixed.false _ _ _ c.be16-stated.ensures c.be16-name.ensures c.be32-bases.ensures (c.in_ok-read_length_tests.ensures g.s.now) c.if-s-start.true

pub returns-then-s-end : goal.returns-then-s-end
returns-then-s-end c =
    let g = c.args in
    frame_data g.flows g.p g.s.now c.if-s-fixed.false _ _ _ c.be16-stated.ensures c.be16-name.ensures c.be32-bases.ensures (c.in_ok-read_length_tests.ensures g.s.now) c.if-s-start.false _ (rw c.data_length.ensures.0) c.if-s-end.true

pub returns : goal.returns
returns c =
    let g = c.args in
    frame_end g.flows g.p g.s.now c.if-s-fixed.false _ _ _ c.be16-stated.ensures c.be16-name.ensures c.be32-bases.ensures (c.in_ok-read_length_tests.ensures g.s.now) c.if-s-start.false _ (rw c.data_length.ensures.0) c.if-s-end.false
