use mathlib.Core.Path.{◌∙◌, ap}
use native.Mathlib.Omega.{arith}
use lib.ListN.{length, length-append}
use Rattle.contents.proofs.steps.Laws.{sum_front, sum_none}
use Rattle.contents.proofs.steps.sum_up_to.Goals as goal

pub loop-chunk-init : goal.loop-chunk-init
loop-chunk-init c =
    rw (c.into_iter-chunk-iterator.ensures.into_iter_gives, c.chunks-chunk-items.ensures.rest) (c.chunks-chunk-items.ensures.size, omega arith, omega arith, omega arith)

pub chunk_sum-requires : goal.chunk_sum-requires
chunk_sum-requires c =
    let e = c.in-Some.ensures.steps in
    omega (arith, c.loop-chunk.invariant)

pub returns-then-most-sum : goal.returns-then-most-sum
returns-then-most-sum c =
    let e = c.in-Some.ensures.steps in
    let n = ap length e.1.0 ∙ length-append c.in-Some.chunk.now c.next.new.self.rest.now in
    let s = sum_front c.loop-chunk.chunk-iterator.rest.now c.in-Some.chunk.now c.next.new.self.rest.now e.1.0 in
    (omega arith, omega arith)

pub loop-chunk-preserved : goal.loop-chunk-preserved
loop-chunk-preserved c =
    let e = c.in-Some.ensures.steps in
    let n = ap length e.1.0 ∙ length-append c.in-Some.chunk.now c.next.new.self.rest.now in
    let s = sum_front c.loop-chunk.chunk-iterator.rest.now c.in-Some.chunk.now c.next.new.self.rest.now e.1.0 in
    (omega arith, omega arith, omega arith, omega arith)

pub returns : goal.returns
returns c =
    let s = sum_none c.loop-chunk.chunk-iterator.rest.now c.in-None.ensures.steps.1.0 in
    (omega arith, omega arith)
