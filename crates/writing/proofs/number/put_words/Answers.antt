use mathlib.Core.Path.{◌≡◌, refl, ◌∙◌}
use lib.ListN.{length}
use native.Mathlib.Omega.{arith}
use Rattle.writing.specs.Put.{words}
use Rattle.writing.proofs.Over.{put_none, put_nil, part_put, bytes_high_first_digits, length_digits}
use Rattle.writing.proofs.Words.{length_words, words_next}
use Rattle.writing.proofs.number.put_words.Goals as goal

pub returns-then-out-size : goal.returns-then-out-size
returns-then-out-size c = put_none _ _ _ (simp length_words (omega arith))

pub loop-i-init : goal.loop-i-init
unfolding words
loop-i-init c = put_nil _ _ (omega arith)

pub loop-i-preserved : goal.loop-i-preserved
loop-i-preserved c =
    let l = c.loop-i in
    let x = c.to_be_bytes.ensures in
    words_next c.args.v.now _ _ _ c.args.p _ l.i _ l.invariant (omega arith) refl (omega arith) (part_put _ _ _ _ _ (c.copy_from_slice.ensures.after ∙ x ∙ bytes_high_first_digits 2 _) (simp length_digits (omega arith)) (simp length_digits (omega arith)))

pub returns : goal.returns
returns c =
    let l = c.loop-i in
    let e : l.i ≡ length c.args.v.now = omega arith in
    rw (← e) l.invariant
