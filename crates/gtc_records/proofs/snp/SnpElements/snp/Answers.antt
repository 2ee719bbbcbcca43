use Prim.Native.Nat.{◌*◌}
use mathlib.Core.Path.{sym, ◌∙◌}
use native.Mathlib.Omega.{arith}
use Rattle.std.proofs.lemmas.Result.{err_from_is_err_and}
use Rattle.reading.proofs.Width.{le_byte, le_front}
use Rattle.gtc_records.specs.Private.{elements_in}
use Rattle.gtc_records.proofs.snp.Laws.{code_refused, first_refused, second_refused, snp_read}
use Rattle.gtc_records.proofs.snp.SnpElements.snp.Goals as goal
use Rattle.gtc_records.proofs.snp.SnpElements.snp.Goals.{then-not-is_base_call-via-then-not-is_base_call, then-not-is_base_call-via-else-not-is_base_call+then-not-is_base_call-2}

pub returns-in_err-genotype : goal.returns-in_err-genotype
returns-in_err-genotype c l =
    let g = c.args in
    let p = err_from_is_err_and c.from_residual.result c.from_residual.ensures.1 in
    rw (p.1, p.2) (code_refused (elements_in g.self) g.j l _ (sym (le_byte _ _)) _ (c.in_err-genotype.ensures l))

pub returns-then-not-is_base_call : goal.returns-then-not-is_base_call
returns-then-not-is_base_call c l =
    let g = c.args in
    let q = c.in_ok-genotype.ensures l in
    elim c.then-not-is_base_call.branch [
      | then-not-is_base_call-via-then-not-is_base_call w ↦ first_refused (elements_in g.self) g.j l _ (sym (le_byte _ _)) _ q _ _ (sym (le_byte _ _)) (sym (le_byte _ _)) w.if-not-is_base_call.ensures
      | then-not-is_base_call-via-else-not-is_base_call+then-not-is_base_call-2 w ↦ second_refused (elements_in g.self) g.j l _ (sym (le_byte _ _)) _ q _ _ (sym (le_byte _ _)) (sym (le_byte _ _)) w.if-not-is_base_call.ensures w.if-not-is_base_call-2.ensures
    ]

pub returns : goal.returns
returns c l =
    let g = c.args in
    let q = c.in_ok-genotype.ensures l in
    let n = c.le32-score_bits.ensures ∙ le_front 4 (4 * g.j) _ g.self.scores.now (omega arith) in
    let x = c.le16.ensures ∙ le_front 2 (2 * g.j) _ g.self.x.now (omega arith) in
    let y = c.le16-2.ensures ∙ le_front 2 (2 * g.j) _ g.self.y.now (omega arith) in
    snp_read (elements_in g.self) g.j l _ (sym (le_byte _ _)) _ q _ _ (sym (le_byte _ _)) (sym (le_byte _ _)) c.if-not-is_base_call.ensures c.if-not-is_base_call-2.ensures _ _ _ _ n c.single.ensures x y
