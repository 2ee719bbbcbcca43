use mathlib.Core.Path.{◌≡◌, refl, sym, ◌∙◌, ap}
use mir.Syntax.{w32}
use mir.Val.{to_z, of_z}
use borrow.Author.Rules.{rules}
use Rattle.reading.specs.Number.{bits}
use Rattle.reading.proofs.Bits.{of_bits}
use Rattle.std.proofs.lemmas.Result.{err_from_is_err_and}
use Rattle.abif.specs.Lookup.{lookup_in, looking_up}
use Rattle.abif.proofs.directory.Laws.{opened_within, after_refused, after_opened}
use Rattle.abif.proofs.lookup.lookup.Goals as goal

pub returns-in_err-d : goal.returns-in_err-d
unfolding looking_up
returns-in_err-d c =
    let g = c.args in
    let p = err_from_is_err_and c.from_residual.result c.from_residual.ensures.1 in
    rw (p.1, p.2) (after_refused (λ d. lookup_in d.up_to d.place d.count g.tag.name (bits 4 g.tag.number)) g.s.now _ (sym c.in_err-d.ensures))

pub of-requires : goal.of-requires
of-requires c = opened_within c.args.s.now _ _ (sym c.in_ok-d.ensures)

pub returns : goal.returns
unfolding looking_up
returns c =
    let g = c.args in
    let e = c.of.ensures in
    let z : to_z w32 (of_z w32 g.tag.number) ≡ g.tag.number = search rules in
    let b : c.cast_unsigned.result ≡ bits 4 g.tag.number = c.cast_unsigned.ensures ∙ ap (of_z w32) z ∙ of_bits w32 4 refl g.tag.number in
    c.lookup_in.ensures ∙ rw (e.0, e.1, e.2, b) (after_opened (λ d. lookup_in d.up_to d.place d.count g.tag.name (bits 4 g.tag.number)) g.s.now _ _ (sym c.in_ok-d.ensures))
