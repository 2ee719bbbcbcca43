use mathlib.Core.Path.{◌≡◌, refl, ◌∙◌, ap}
use native.Mathlib.Omega.{arith}
use mir.Syntax.{w32, w64}
use mir.Val.{to_z, of_z}
use borrow.Author.Rules.{rules}
use Rattle.reading.specs.Number.{signed}
use Rattle.abif.specs.Entry.{type_of}
use Rattle.reading.proofs.Signs.{cast_is}
use Rattle.abif_elements.proofs.element.Laws.{value_single, value_double, value_date, value_time, value_thumb, value_bool, value_whole}
use Rattle.abif_elements.proofs.element.value_at.Goals as goal

pub date_at-requires : goal.date_at-requires
unfolding type_of
date_at-requires c = rw c.in-10.is at c.requires

pub time_at-requires : goal.time_at-requires
unfolding type_of
time_at-requires c = rw c.in-11.is at c.requires

pub returns-in-7 : goal.returns-in-7
returns-in-7 c s =
    let g = c.args in
    rw (c.single.ensures, c.be32-bits.ensures) (value_single g.l.now g.p g.code s c.in-7.is)

pub returns-in-8 : goal.returns-in-8
returns-in-8 c s =
    let g = c.args in
    rw (c.double.ensures, c.be64-bits.ensures) (value_double g.l.now g.p g.code s c.in-8.is)

pub returns-in-10 : goal.returns-in-10
returns-in-10 c s =
    let g = c.args in
    c.date_at.ensures s ∙ value_date g.l.now g.p g.code s c.in-10.is

pub returns-in-11 : goal.returns-in-11
returns-in-11 c s =
    let g = c.args in
    c.time_at.ensures s ∙ value_time g.l.now g.p g.code s c.in-11.is

pub returns-in-12 : goal.returns-in-12
returns-in-12 c s =
    let g = c.args in
    let f = cast_is w32 4 c.be32.result _ refl refl (omega arith) c.cast_signed.ensures ∙ ap (signed 4) c.be32.ensures in
    let h = cast_is w32 4 c.be32-in-12.result _ refl refl (omega arith) c.cast_signed-in-12.ensures ∙ ap (signed 4) c.be32-in-12.ensures in
    rw (f, h, c.byte.ensures, c.byte-in-12.ensures) (value_thumb g.l.now g.p g.code s c.in-12.is)

pub returns-in-13 : goal.returns-in-13
returns-in-13 c s =
    let g = c.args in
    rw c.byte-in-13.ensures (value_bool g.l.now g.p g.code s c.in-13.is)

pub returns-in_default : goal.returns-in_default
returns-in_default c s =
    let g = c.args in
    let f : to_z w64 (of_z w64 c.whole_at.result) ≡ c.whole_at.result = search rules in
    rw (f, c.whole_at.ensures) (value_whole g.l.now g.p g.code s (λ e. omega arith) (λ e. omega arith) (λ e. omega arith) (λ e. omega arith) (λ e. omega arith) (λ e. omega arith))
