use mathlib.Core.Path.{sym}
use Rattle.reading.proofs.Cut.{run_ok}
use Rattle.reading.proofs.Results.{run_wrong}
use Rattle.sff.specs.Walk.{skip_index, next_read}
use Rattle.sff.proofs.walk.Laws.{skip_within, next_wrong, next_passed}
use Rattle.sff.proofs.walk.SffFile.next_read.Goals as goal

pub returns-in-Err : goal.returns-in-Err
unfolding next_read
returns-in-Err c =
    let g = c.args in
    rw c.at.ensures (run_wrong (skip_index g.self.header g.b) g.self.bytes.now _ _ 0 c.in-Err.ensures)

pub frame-requires : goal.frame-requires
frame-requires c = skip_within _ _ _ _ c.requires.0 (run_ok _ _ _ (sym c.in-Ok.ensures))

pub returns-in-Err-frame : goal.returns-in-Err-frame
returns-in-Err-frame c =
    let g = c.args in
    rw c.at-in-Err-frame.ensures (next_wrong g.self.header g.b g.self.bytes.now g.i _ c.in-Ok.ensures _ c.in-Err-frame.ensures)

pub returns : goal.returns
returns c =
    let g = c.args in
    next_passed g.self.header g.b g.self.bytes.now g.i _ c.in-Ok.ensures _ c.in-Ok-frame.ensures
